use Rattle.std.proofs.Common.{take, All}
use Rattle.ct_workers.specs.Turns.{IsTurnOf}
use Rattle.ct_workers.proofs.tests.are_of.Given as goal

abbrev pub invariant-loop-turn : goal.invariant-loop-turn
invariant-loop-turn l = All (IsTurnOf l.passes) (take l.turn-index l.turns)
