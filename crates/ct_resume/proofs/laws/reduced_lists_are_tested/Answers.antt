use Rattle.ct_resume.proofs.Tests.{reduced_has_none, first_unreduced_is_found}
use Rattle.ct_resume.proofs.laws.reduced_lists_are_tested.Goals as goal

pub returns-clause-none : goal.returns-clause-none
returns-clause-none c = reduced_has_none

pub returns-clause-some : goal.returns-clause-some
returns-clause-some c = first_unreduced_is_found
