use Rattle.std.proofs.Common.{◌≡◌, drop}
use Rattle.ct_order.specs.Order.{first_difference}
use Rattle.ct_order.proofs.comparison.by_first_difference.Given as goal

abbrev pub invariant-loop-i : goal.invariant-loop-i
invariant-loop-i l = first_difference l.p l.q ≡ first_difference (drop l.i l.p) (drop l.i l.q)
