use Rattle.std.proofs.Common.{All, map, vec_len}
use Rattle.ct_book.specs.Tasks.{IsHeld, left_at}
use Rattle.ct_book.proofs.BatchRuns.{HasCommitted}
use Rattle.ct_book.proofs.batches.take_in_all.Given as goal

abbrev pub invariant-loop-one : goal.invariant-loop-one
invariant-loop-one l = record {
  committed : HasCommitted l.initial.book l.by (map (left_at l.version) l.initial.left.items) (map (left_at l.version) l.left.items) l.book;
  held : All (λ x. IsHeld (left_at l.version x)) l.left.items;
}

abbrev pub decreases-loop-one : goal.decreases-loop-one
decreases-loop-one l = vec_len l.left
