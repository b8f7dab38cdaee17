use Rattle.ct_instance.proofs.Fiber.{rank_of}
use Rattle.ct_walk.proofs.Loops.{WalkingOn}
use Rattle.ct_walk.proofs.walking.walk_end.Given as goal

abbrev pub invariant-loop : goal.invariant-loop
invariant-loop l = WalkingOn l.moves l.initial.p l.p

abbrev pub decreases-loop : goal.decreases-loop
decreases-loop l = rank_of l.moves.instance l.p
