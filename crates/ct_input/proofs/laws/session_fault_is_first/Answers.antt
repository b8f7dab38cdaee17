use Rattle.std.proofs.Common.{[]}
use Rattle.ct_text.specs.Tokens.{text_of}
use Rattle.ct_input.specs.Sheet.{sheet_of}
use Rattle.ct_input.specs.SessionText.{session_text}
use Rattle.ct_input.proofs.FirstFaults.{is_first, value_fault}
use Rattle.ct_input.proofs.Filled.{fills_session_text, closes_session_text}
use Rattle.ct_input.proofs.laws.session_fault_is_first.Goals as goal

pub returns : goal.returns
returns c m bytes fault bad = is_first [] (session_text m) (fills_session_text m) (closes_session_text m) (sheet_of (text_of bytes)) fault (value_fault (session_text m) (sheet_of (text_of bytes)) fault bad)
