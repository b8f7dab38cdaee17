use Rattle.ct_form.proofs.FormAnswer.{answer_is_form_optimum, none_is_infeasible}
use Rattle.ct_form.proofs.laws.answer_is_least_form_solution.Goals as goal

pub returns-clause-optimum : goal.returns-clause-optimum
returns-clause-optimum c = answer_is_form_optimum

pub returns-clause-infeasible : goal.returns-clause-infeasible
returns-clause-infeasible c = none_is_infeasible
