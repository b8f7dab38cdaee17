use Rattle.std.proofs.Common.{◌≡◌, ◌≤◌}
use Rattle.ct_vectors.specs.Words.{Extends}
use Rattle.turn_cell.proofs.cell.TurnCell.take_at_last.Given as goal

abbrev pub invariant-loop : goal.invariant-loop
invariant-loop g l = record {
  pass : l.pass ≡ record l.initial.pass { seen = l.pass.seen; words = l.pass.words };
  words : Extends l.initial.pass.words l.pass.words;
  rises : l.initial.pass.seen ≤ l.pass.seen;
}
