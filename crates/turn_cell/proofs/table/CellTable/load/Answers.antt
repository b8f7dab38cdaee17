use Rattle.std.proofs.Common.{rules}
use Rattle.turn_cell.proofs.Steps.{loads}
use Rattle.turn_cell.proofs.table.CellTable.load.Goals as goal

pub load-requires : goal.load-requires
load-requires g c = (search rules, search rules, loads _ _ _ _ _ _ (search rules))
