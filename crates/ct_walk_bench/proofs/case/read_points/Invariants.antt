use Rattle.std.proofs.Common.{All}
use Rattle.ct_instance.specs.Instance.{IsPoint}
use Rattle.ct_walk_bench.proofs.case.read_points.Given as goal

abbrev pub invariant-loop : goal.invariant-loop
invariant-loop l = All (IsPoint l.inst) l.points.items
