use Rattle.ct_vectors.specs.Vectors.{add}
use Rattle.ct_point.proofs.InPlace.{IsWritten}
use Rattle.ct_point.proofs.slices.add_to.Given as goal

abbrev pub invariant-loop-i : goal.invariant-loop-i
invariant-loop-i l = IsWritten (add l.initial.p l.q) l.initial.p l.p l.i
