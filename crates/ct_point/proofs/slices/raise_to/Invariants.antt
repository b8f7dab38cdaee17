use Rattle.ct_vectors.specs.Vectors.{lcm}
use Rattle.ct_point.proofs.InPlace.{IsWritten}
use Rattle.ct_point.proofs.slices.raise_to.Given as goal

abbrev pub invariant-loop-i : goal.invariant-loop-i
invariant-loop-i l = IsWritten (lcm l.initial.p l.q) l.initial.p l.p l.i
