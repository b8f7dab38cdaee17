use Rattle.std.proofs.Common.{◌≡◌, drop}
use Rattle.ct_order.specs.Order.{cost_order}
use Rattle.ct_order.proofs.comparison.by_costs.Given as goal

abbrev pub invariant-loop-k : goal.invariant-loop-k
invariant-loop-k l = cost_order l.costs.rows l.p l.q ≡ cost_order (drop l.k l.costs.rows) l.p l.q
