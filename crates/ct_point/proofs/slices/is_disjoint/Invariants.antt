use Rattle.std.proofs.Common.{◌≡◌, drop}
use Rattle.ct_vectors.specs.Vectors.{disjoint}
use Rattle.ct_point.proofs.slices.is_disjoint.Given as goal

abbrev pub invariant-loop-i : goal.invariant-loop-i
invariant-loop-i l = disjoint l.p l.q ≡ disjoint (drop l.i l.p) (drop l.i l.q)
