use Rattle.std.proofs.Common.{rules}
use Rattle.turn_cell.proofs.Steps.{joins_passes}
use Rattle.turn_cell.proofs.table.CellTable.join.Goals as goal

pub join_seat-requires : goal.join_seat-requires
join_seat-requires g c = (search rules, search rules, search rules, search rules, joins_passes _ _ _ _ _ _ _ (search rules) (search rules) (search rules) (search rules))
