use Rattle.std.proofs.Common.{◌≡◌, take, length}
use Rattle.ct_instance.specs.Made.{column_of}
use Rattle.ct_instance.proofs.making.column_from.Given as goal

abbrev pub invariant-loop-r : goal.invariant-loop-r
invariant-loop-r l = record { done : take l.r l.column ≡ take l.r (column_of l.rows l.columns l.j l.entries); places : length l.column ≡ 16 }
