use Rattle.std.proofs.Common.{◌≡◌, None, map, replicate}
use Rattle.ct_book.specs.Queues.{slot_seen}
use Rattle.ct_book.proofs.queue.all_waiting.Given as goal

abbrev pub invariant-loop : goal.invariant-loop
invariant-loop l = map slot_seen l.slots.items ≡ replicate l.counter None
