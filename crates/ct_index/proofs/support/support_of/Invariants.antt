use Rattle.ct_index.proofs.BitFacts.{IsSupportTo}
use Rattle.ct_index.proofs.support.support_of.Given as goal

abbrev pub invariant-loop-i : goal.invariant-loop-i
invariant-loop-i l = IsSupportTo l.p l.i l.support
