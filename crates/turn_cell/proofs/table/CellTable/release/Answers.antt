use Rattle.std.proofs.Common.{rules, refl}
use Rattle.turn_cell.proofs.Steps.{releases_turn}
use Rattle.turn_cell.proofs.table.CellTable.release.Goals as goal

pub swap-requires : goal.swap-requires
swap-requires g c = (
  search rules,
  search rules,
  releases_turn _ _ _ _ _ _ _ c.requires.turn.0 c.args.number _ c.requires.in_hand.0 (search rules) (search rules) (search rules) c.requires.in_hand.2 (search rules) c.requires.turn.2 c.requires.small refl,
)
