use Rattle.std.proofs.Common.{◌≡◌, ◌+◌, ◌-◌, ◌≤◌, length, map, take}
use Rattle.ct_completion.specs.declared.journals.Act.TheVariants.{Stored}
use Rattle.ct_book.proofs.WholeLists.{IsWritten}
use Rattle.ct_book.proofs.bringing.write_down.Given as goal

abbrev pub invariant-loop-place : goal.invariant-loop-place
invariant-loop-place l = record {
  written : IsWritten l.fn.log.entries (map Stored (take l.place l.queue.jobs)) l.log.entries;
  passes : l.log.passes ≡ l.fn.log.passes;
  room : length l.log.entries + (length l.queue.jobs - l.place) + 1 ≤ l.log.room;
}
