use Rattle.ct_box.proofs.Openings.{box_lemma}
use Rattle.ct_box.proofs.laws.jobs_within_a_bound_decide.Goals as goal

pub returns : goal.returns
returns c = record { pairs = box_lemma }
