use Rattle.ct_index.specs.Table.{IsExcluded}
use Rattle.ct_index.proofs.table.excluded.Given as goal

abbrev pub invariant-loop-i : goal.invariant-loop-i
invariant-loop-i l = IsExcluded l.rows l.places l.i l.out
