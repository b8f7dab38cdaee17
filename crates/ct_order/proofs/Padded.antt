-- A list of costs with zeros behind it.
use Rattle.std.proofs.Common.{◌≡◌, ℕ, ℤ, pos, List, ◌++◌, length, take, drop, replicate, ap, ◌∙◌}
use Rattle.std.proofs.Math.Seq.{take-append_seam}
use Rattle.std.proofs.lemmas.List.{drop-replicate}
use Rattle.ct_vectors.specs.declared.limits.TheConstants.{COST_ROW_LIMIT}
use Rattle.ct_order.specs.Costs.{padded}

-- the list written over zeros
pub over_zeros : (costs : List ℤ) → costs ++ drop (length costs) (replicate COST_ROW_LIMIT (pos 0)) ≡ padded costs
over_zeros costs = ap (λ rest. costs ++ rest) (drop-replicate (length costs) COST_ROW_LIMIT (pos 0))

pub take-over_zeros : (costs : List ℤ) (n : ℕ) → n ≡ length costs → take n (costs ++ drop n (replicate COST_ROW_LIMIT (pos 0))) ≡ costs
take-over_zeros costs n e = ap (λ k. take k (costs ++ drop n (replicate COST_ROW_LIMIT (pos 0)))) e ∙ take-append_seam costs (drop n (replicate COST_ROW_LIMIT (pos 0)))
