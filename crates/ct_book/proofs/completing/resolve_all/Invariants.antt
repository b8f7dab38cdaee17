use Rattle.std.proofs.Common.{◌≡◌, length}
use Rattle.ct_book.specs.Books.{IsCovered, Runs}
use Rattle.ct_book.proofs.completing.resolve_all.Given as goal

abbrev pub invariant-loop-task : goal.invariant-loop-task
invariant-loop-task l = record {
  runs : Runs l.initial.book l.book;
  number : l.book.state.number ≡ l.initial.book.state.number;
  unchanged : IsCovered l.initial.book l.target → l.book ≡ l.initial.book;
}

abbrev pub decreases-loop-task : goal.decreases-loop-task
decreases-loop-task l = length l.book.state.queue
