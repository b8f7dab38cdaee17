use Rattle.std.proofs.Common.{rules, arith}
use Rattle.turn_cell.proofs.cell.TurnCell.put.Goals as goal

pub release-requires-clause-turn : goal.release-requires-clause-turn
release-requires-clause-turn g c = (g.V.Numbered.number_of c.take_at_last-home.result, search rules, omega (arith, c.greater.ensures.number))
