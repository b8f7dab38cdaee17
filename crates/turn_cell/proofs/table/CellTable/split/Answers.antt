use Rattle.std.proofs.Common.{rules}
use Rattle.turn_cell.proofs.Steps.{splits_pass}
use Rattle.turn_cell.proofs.table.CellTable.split.Goals as goal

pub split_seat-requires : goal.split_seat-requires
split_seat-requires g c = (search rules, search rules, splits_pass _ _ _ _ _ (search rules))
