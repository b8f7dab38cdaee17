use Rattle.std.proofs.Common.{◌≡◌, drop}
use Rattle.ct_vectors.specs.Vectors.{divides}
use Rattle.ct_box.proofs.within.is_at_most.Given as goal

abbrev pub invariant-loop-i : goal.invariant-loop-i
invariant-loop-i l = divides l.p l.q ≡ divides (drop l.i l.p) (drop l.i l.q)
