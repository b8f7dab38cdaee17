use Rattle.std.proofs.Common.{rules}
use Rattle.turn_cell.proofs.Steps.{takes_turn}
use Rattle.turn_cell.proofs.table.CellTable.take.Goals as goal

pub fetch_or-requires : goal.fetch_or-requires
fetch_or-requires g c = (search rules, search rules, takes_turn _ _ _ _ _ _ (search rules) (search rules))
