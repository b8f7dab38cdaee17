use Rattle.ct_vectors.specs.Vectors.{add, scale}
use Rattle.ct_point.proofs.InPlace.{IsWritten}
use Rattle.ct_instance.proofs.sums.add_multiple.Given as goal

abbrev pub invariant-loop-i : goal.invariant-loop-i
invariant-loop-i l = IsWritten (add (scale l.x l.column) l.initial.degree) l.initial.degree l.degree l.i
