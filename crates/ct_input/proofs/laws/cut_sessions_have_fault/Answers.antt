use Rattle.ct_input.proofs.CutTexts.{sessions_cut, sessions_end}
use Rattle.ct_input.proofs.laws.cut_sessions_have_fault.Goals as goal

pub returns-clause-cut : goal.returns-clause-cut
returns-clause-cut c = sessions_cut

pub returns-clause-last : goal.returns-clause-last
returns-clause-last c = sessions_end
