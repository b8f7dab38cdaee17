use Rattle.std.proofs.Common.{take, []}
use Rattle.ct_book.specs.Books.{Runs}
use Rattle.ct_workers.specs.Turns.{AreOf, AreTurns}
use Rattle.ct_workers.proofs.driving.drive.Given as goal

abbrev pub invariant-loop-turn : goal.invariant-loop-turn
invariant-loop-turn l = record {
  turns : AreTurns l.target (record { book = l.initial.book; kept = [] }) (take l.turn-index l.turns) l.answers.items (record { book = l.book; kept = l.kept });
  runs : Runs l.initial.book l.book;
  place : AreOf l.book.instance l.kept;
}
