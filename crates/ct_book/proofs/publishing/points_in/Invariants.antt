use Rattle.std.proofs.Common.{◌≡◌, map, take}
use Rattle.ct_completion.specs.Remainders.{points_of}
use Rattle.ct_groups.specs.Groups.{points_seen}
use Rattle.ct_book.specs.Queues.{slot_seen}
use Rattle.ct_book.specs.Openings.{left_in}
use Rattle.ct_book.proofs.publishing.points_in.Given as goal

abbrev pub invariant-loop-slot : goal.invariant-loop-slot
invariant-loop-slot l = points_seen l.points.items ≡ points_of (left_in (map slot_seen (take l.slot-index l.slots)))
