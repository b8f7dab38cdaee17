use Rattle.std.proofs.Common.{rules, Some, ap, ◌∙◌}
use Rattle.turn_cell.proofs.Steps.{exchanges_out}
use Rattle.turn_cell.proofs.table.CellTable.exchange_out.Goals as goal

pub exchange-requires : goal.exchange-requires
exchange-requires g c = (search rules, exchanges_out _ (Some c.requires.in_hand.0) (ap (λ s. s.me.1) c.seat.view_is ∙ c.requires.in_hand.1))
