use Rattle.ct_vectors.specs.declared.limits.TheConstants.{COST_LIMIT, JOB_GRADE_LIMIT}
use Rattle.std.proofs.Common.{◌≡◌, ◌+ℤ◌, ◌*◌, ◌≤◌, drop, nat_abs}
use Rattle.ct_order.specs.Order.{cost_of}
use Rattle.ct_order.proofs.comparison.weighted_sum.Given as goal

abbrev pub invariant-loop-i : goal.invariant-loop-i
invariant-loop-i l = record { so_far : l.sum +ℤ cost_of (drop l.i l.costs) (drop l.i l.p) ≡ cost_of l.costs l.p; bound : nat_abs l.sum ≤ l.i * (COST_LIMIT * JOB_GRADE_LIMIT) }
