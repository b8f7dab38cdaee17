use Rattle.std.proofs.Common.{◌≡◌}
use Rattle.ct_instance.specs.Made.{indices}
use Rattle.ct_book.proofs.queue.places.Given as goal

abbrev pub invariant-loop-place : goal.invariant-loop-place
invariant-loop-place l = l.places.items ≡ indices l.place
