use Rattle.std.proofs.Common.{◌≡◌, ◌+◌, ◌*◌, ◌≤◌, drop}
use Rattle.ct_vectors.specs.declared.limits.TheConstants.{ROW_LIMIT, ENTRY_LIMIT, JOB_GRADE_LIMIT}
use Rattle.ct_instance.specs.Instance.{weighted}
use Rattle.ct_instance.proofs.sums.wide_grade_by_sums.Given as goal

abbrev pub invariant-loop-j : goal.invariant-loop-j
invariant-loop-j l = record {
  so_far : l.sum + weighted (drop l.j l.sums) (drop l.j l.p) ≡ weighted l.sums l.p;
  bound : l.sum ≤ l.j * (ROW_LIMIT * ENTRY_LIMIT * JOB_GRADE_LIMIT);
}
