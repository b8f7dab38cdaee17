use Rattle.std.proofs.Common.{All}
use Rattle.ct_groups.specs.Groups.{IsSmallPoint}
use Rattle.ct_completion_bench.proofs.reduction.reduce.Given as goal

abbrev pub invariant-loop-job : goal.invariant-loop-job
invariant-loop-job l = All (IsSmallPoint l.inst) l.left.items
