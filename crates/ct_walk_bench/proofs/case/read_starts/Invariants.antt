use Rattle.std.proofs.Common.{All, ◌≤◌}
use Rattle.ct_vectors.specs.declared.limits.TheConstants.{GRADE_LIMIT}
use Rattle.ct_instance.specs.Instance.{IsPoint, grade_of}
use Rattle.ct_walk_bench.proofs.case.read_starts.Given as goal

abbrev pub invariant-loop : goal.invariant-loop
invariant-loop l = All (IsPoint l.inst) l.starts.items × All (λ p. grade_of l.inst.columns p ≤ GRADE_LIMIT) l.starts.items
