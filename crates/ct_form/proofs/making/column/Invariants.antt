use Rattle.std.proofs.Common.{◌≡◌, take}
use Rattle.ct_instance.specs.Made.{column_of}
use Rattle.ct_form.proofs.making.column.Given as goal

abbrev pub invariant-loop-r : goal.invariant-loop-r
invariant-loop-r l = l.column.items ≡ take l.r (column_of l.rows l.columns l.j l.entries)
