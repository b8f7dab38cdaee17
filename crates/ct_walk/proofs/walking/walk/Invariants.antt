use Rattle.ct_instance.proofs.Fiber.{rank_of}
use Rattle.ct_walk.proofs.Loops.{Walking}
use Rattle.ct_walk.proofs.walking.walk.Given as goal

abbrev pub invariant-loop-step : goal.invariant-loop-step
invariant-loop-step l = Walking l.moves l.initial.here l.steps.items l.here

abbrev pub decreases-loop-step : goal.decreases-loop-step
decreases-loop-step l = rank_of l.moves.instance l.here
