use Rattle.std.proofs.Common.{◌+◌}
use Rattle.ct_instance.proofs.Fiber.{rank_of}
use Rattle.ct_walk.proofs.TwoWalks.{WalkingBoth}
use Rattle.ct_walk.proofs.meeting.have_one_end.Given as goal

abbrev pub invariant-loop-above : goal.invariant-loop-above
invariant-loop-above l = WalkingBoth l.moves l.initial.first l.initial.second l.first l.second

abbrev pub decreases-loop-above : goal.decreases-loop-above
decreases-loop-above l = rank_of l.moves.instance l.first + rank_of l.moves.instance l.second
