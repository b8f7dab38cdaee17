use Rattle.std.proofs.Common.{[]}
use Rattle.ct_text.specs.Tokens.{text_of}
use Rattle.ct_input.specs.Sheet.{sheet_of}
use Rattle.ct_input.proofs.FirstFaults.{is_first, value_fault}
use Rattle.ct_form_text.specs.FormText.{form_text}
use Rattle.ct_form_text.proofs.Filled.{fills_form_text, closes_form_text}
use Rattle.ct_form_text.proofs.laws.form_fault_is_first.Goals as goal

pub returns : goal.returns
returns c = λ bytes fault bad. is_first [] form_text fills_form_text closes_form_text (sheet_of (text_of bytes)) fault (value_fault form_text (sheet_of (text_of bytes)) fault bad)
