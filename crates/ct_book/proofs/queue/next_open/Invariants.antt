use Rattle.std.proofs.Common.{◌≡◌, map, filter}
use Rattle.std.specs.VecDeque.{deque_len}
use Rattle.ct_book.specs.Queues.{slot_seen, waits_at}
use Rattle.ct_book.proofs.queue.next_open.Given as goal

abbrev pub invariant-loop-place : goal.invariant-loop-place
invariant-loop-place l = filter (waits_at (map slot_seen l.slots)) l.waiting.items ≡ filter (waits_at (map slot_seen l.slots)) l.initial.waiting.items

abbrev pub decreases-loop-place : goal.decreases-loop-place
decreases-loop-place l = deque_len l.waiting
