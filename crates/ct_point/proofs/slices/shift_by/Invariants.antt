use Rattle.ct_point.proofs.InPlace.{IsWritten}
use Rattle.ct_point.proofs.Shifts.{shifted}
use Rattle.ct_point.proofs.slices.shift_by.Given as goal

abbrev pub invariant-loop-i : goal.invariant-loop-i
invariant-loop-i l = IsWritten (shifted l.times l.initial.p l.head l.tail) l.initial.p l.p l.i
