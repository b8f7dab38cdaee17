use Rattle.ct_vectors.specs.Vectors.{subtract}
use Rattle.ct_point.proofs.InPlace.{IsWritten}
use Rattle.ct_point.proofs.slices.subtract_from.Given as goal

abbrev pub invariant-loop-i : goal.invariant-loop-i
invariant-loop-i l = IsWritten (subtract l.initial.p l.q) l.initial.p l.p l.i
