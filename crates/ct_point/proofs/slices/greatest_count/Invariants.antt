use Rattle.ct_point.proofs.Counts.{IsLeastQuotient}
use Rattle.ct_point.proofs.slices.greatest_count.Given as goal

abbrev pub invariant-loop-i : goal.invariant-loop-i
invariant-loop-i l = IsLeastQuotient l.head l.p l.times l.i
