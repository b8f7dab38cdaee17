use Rattle.ct_legal.proofs.Headline.{served_is_true, answered_is_true}
use Rattle.ct_legal.proofs.laws.legal_reports_are_true.Goals as goal

pub returns : goal.returns
returns c = record { served = served_is_true; answered = answered_is_true }
