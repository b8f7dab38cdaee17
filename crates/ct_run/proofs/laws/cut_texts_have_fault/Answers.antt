use Rattle.ct_run.proofs.CutFiles.{form_text_cut, session_text_cut}
use Rattle.ct_run.proofs.laws.cut_texts_have_fault.Goals as goal

pub returns-clause-instance : goal.returns-clause-instance
returns-clause-instance c = form_text_cut

pub returns-clause-sessions : goal.returns-clause-sessions
returns-clause-sessions c = session_text_cut
