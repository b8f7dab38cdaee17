use Rattle.ct_index.proofs.Counting.{Counting}
use Rattle.ct_index.proofs.support.times_over.Given as goal

abbrev pub decreases-loop-left : goal.decreases-loop-left
decreases-loop-left l = l.left

abbrev pub invariant-loop-left : goal.invariant-loop-left
invariant-loop-left l = Counting l.head l.p l.support l.left l.times
