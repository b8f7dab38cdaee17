use Rattle.std.proofs.Common.{refl}
use Rattle.ct_walk.specs.Moves.{first_steps, second_steps}
use Rattle.ct_walk.proofs.meeting.higher_steps.Goals as goal

pub returns-in-Some-clause-stepped : goal.returns-in-Some-clause-stepped
returns-in-Some-clause-stepped c = first_steps c.in-Some.number c.in-Some.times c.in-Some.ensures.step refl

pub returns-in-Some-step_on-clause-stepped : goal.returns-in-Some-step_on-clause-stepped
returns-in-Some-step_on-clause-stepped c = second_steps c.in-Some-step_on.number c.in-Some-step_on.times c.in-Some-step_on.ensures.step refl
