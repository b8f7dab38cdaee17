use Rattle.std.proofs.Common.{◌≡◌, ◌-◌}
use Rattle.std.specs.Arc.{arc_value}
use Rattle.ct_completion_bench.proofs.completion.complete.Given as goal

abbrev pub invariant-loop-grade : goal.invariant-loop-grade
invariant-loop-grade l = l.moves.instance ≡ arc_value l.inst

abbrev pub decreases-loop-grade : goal.decreases-loop-grade
decreases-loop-grade l = l.target - l.last
