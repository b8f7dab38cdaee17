use Rattle.std.proofs.Common.{◌≡◌, take, map, length}
use Rattle.ct_vectors.specs.declared.limits.TheConstants.{COST_ROW_LIMIT}
use Rattle.ct_order.specs.Order.{cost_of}
use Rattle.ct_order.proofs.comparison.costs_of.Given as goal

abbrev pub invariant-loop-k : goal.invariant-loop-k
invariant-loop-k l = record { done : take l.k l.found ≡ take l.k (map (λ row. cost_of row l.p) l.costs.rows); places : length l.found ≡ COST_ROW_LIMIT }
