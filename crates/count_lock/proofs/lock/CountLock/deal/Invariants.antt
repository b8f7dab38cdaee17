use Rattle.std.proofs.Common.{◌≡◌, ◌+◌, ◌<◌, [], ◌++◌, take, reverse, length, vec_capacity}
use Rattle.count_lock.specs.Count.{first_note}
use Rattle.count_lock.specs.Sight.{fresh_passes}
use Rattle.count_lock.proofs.lock.CountLock.deal.Given as goal

abbrev pub invariant-loop-number : goal.invariant-loop-number
invariant-loop-number g l = record {
  below : l.number < length l.counts;
  seat : l.seat.table_id ≡ l.self.lock;
  me : l.seat.me ≡ (first_note l.self.first (take (l.number + 1) l.counts), []);
  dealt : fresh_passes l.self 0 (take (l.number + 1) l.counts) ++ reverse l.dealt.items ≡ fresh_passes l.self 0 l.counts;
  room : length l.dealt.items + l.number < vec_capacity l.dealt;
}

abbrev pub decreases-loop-number : goal.decreases-loop-number
decreases-loop-number g l = l.number
