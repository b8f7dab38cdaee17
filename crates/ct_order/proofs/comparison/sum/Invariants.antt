use Rattle.std.proofs.Common.{◌≡◌, ◌+◌, drop}
use Rattle.ct_vectors.specs.Vectors.{total}
use Rattle.ct_order.proofs.comparison.sum.Given as goal

abbrev pub invariant-loop-i : goal.invariant-loop-i
invariant-loop-i l = l.sum + total (drop l.i l.numbers) ≡ total l.numbers
