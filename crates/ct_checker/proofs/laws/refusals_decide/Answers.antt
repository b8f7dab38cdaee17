use Rattle.ct_checker.proofs.Accepted.{certified_accepted}
use Rattle.ct_checker.proofs.Refusals.{no_refusal}
use Rattle.ct_checker.proofs.laws.refusals_decide.Goals as goal

pub returns-clause-none : goal.returns-clause-none
returns-clause-none c = no_refusal

pub returns-clause-certified : goal.returns-clause-certified
returns-clause-certified c = certified_accepted
