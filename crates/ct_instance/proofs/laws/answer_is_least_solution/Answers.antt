use Rattle.ct_instance.proofs.Answer.{solution_in_fiber, answer_is_optimum, answer_is_short, none_is_short}
use Rattle.ct_instance.proofs.laws.answer_is_least_solution.Goals as goal

pub returns-clause-fibers : goal.returns-clause-fibers
returns-clause-fibers c = solution_in_fiber

pub returns-clause-optimum : goal.returns-clause-optimum
returns-clause-optimum c = answer_is_optimum

pub returns-clause-infeasible : goal.returns-clause-infeasible
returns-clause-infeasible c = answer_is_short

pub returns-clause-exactly : goal.returns-clause-exactly
returns-clause-exactly c = none_is_short
