use Rattle.ct_form.proofs.Solutions.{solutions_are_cut, solutions_are_extended}
use Rattle.ct_form.proofs.laws.equality_form_has_the_solutions.Goals as goal

pub returns-clause-cut : goal.returns-clause-cut
returns-clause-cut c = solutions_are_cut

pub returns-clause-extended : goal.returns-clause-extended
returns-clause-extended c = solutions_are_extended
