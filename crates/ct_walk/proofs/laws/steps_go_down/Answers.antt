use Rattle.ct_walk.proofs.Followed.{leads_by_more}
use Rattle.ct_walk.proofs.Steps.{head_positive, free_step_down, leads_down, leads_of_sum, coordinates_within}
use Rattle.ct_walk.proofs.laws.steps_go_down.Goals as goal

pub returns-clause-positive : goal.returns-clause-positive
returns-clause-positive c = head_positive

pub returns-clause-step : goal.returns-clause-step
returns-clause-step c = free_step_down

pub returns-clause-leads : goal.returns-clause-leads
returns-clause-leads c = leads_down

pub returns-clause-sums : goal.returns-clause-sums
returns-clause-sums c = λ i ms a p q r e f l. leads_of_sum i ms a p q r e l

pub returns-clause-more : goal.returns-clause-more
returns-clause-more c = leads_by_more

pub returns-clause-within : goal.returns-clause-within
returns-clause-within c = coordinates_within
