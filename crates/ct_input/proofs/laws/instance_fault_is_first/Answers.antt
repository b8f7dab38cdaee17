use Rattle.std.proofs.Common.{[]}
use Rattle.ct_text.specs.Tokens.{text_of}
use Rattle.ct_input.specs.Sheet.{sheet_of}
use Rattle.ct_input.specs.InstanceText.{instance_text}
use Rattle.ct_input.proofs.FirstFaults.{is_first, value_fault}
use Rattle.ct_input.proofs.Filled.{fills_instance_text, closes_instance_text}
use Rattle.ct_input.proofs.laws.instance_fault_is_first.Goals as goal

pub returns : goal.returns
returns c bytes fault bad = is_first [] instance_text fills_instance_text closes_instance_text (sheet_of (text_of bytes)) fault (value_fault instance_text (sheet_of (text_of bytes)) fault bad)
