use Rattle.ct_index.proofs.BitFacts.{AreMarkedTo}
use Rattle.ct_index.proofs.table.mark.Given as goal

abbrev pub invariant-loop-r : goal.invariant-loop-r
invariant-loop-r l = AreMarkedTo l.initial.rows l.rows l.head l.index l.r
