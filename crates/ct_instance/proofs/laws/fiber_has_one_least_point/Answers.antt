use Rattle.ct_instance.proofs.Fiber.{fiber_lists, least_points}
use Rattle.ct_instance.proofs.laws.fiber_has_one_least_point.Goals as goal

pub returns-clause-listed : goal.returns-clause-listed
returns-clause-listed c = fiber_lists

pub returns-clause-least : goal.returns-clause-least
returns-clause-least c = least_points
