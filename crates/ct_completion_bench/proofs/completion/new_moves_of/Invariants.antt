use Rattle.std.proofs.Common.{◌≡◌, take}
use Rattle.ct_groups.specs.Groups.{points_seen}
use Rattle.ct_completion_bench.proofs.completion.new_moves_of.Given as goal

abbrev pub invariant-loop-p : goal.invariant-loop-p
invariant-loop-p l = points_seen l.points.items ≡ take l.p-index l.left
