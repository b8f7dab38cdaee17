use Rattle.std.proofs.Common.{◌≤◌, take, map, All}
use Rattle.ct_vectors.specs.Vectors.{total}
use Rattle.ct_vectors.specs.declared.limits.TheConstants.{GRADE_LIMIT}
use Rattle.ct_best_report.proofs.telling.greatest_sum.Given as goal

abbrev pub invariant-loop-k : goal.invariant-loop-k
invariant-loop-k l = record {
  most : All (λ b. total b ≤ l.top) (take l.k (map (λ b. b.now) l.rights));
  limit : l.top ≤ GRADE_LIMIT;
}
