use Rattle.ct_legal.proofs.Sessions.{shown_is_legal}
use Rattle.ct_legal.proofs.laws.sessions_show_legal_lines.Goals as goal

pub returns : goal.returns
returns c = shown_is_legal
