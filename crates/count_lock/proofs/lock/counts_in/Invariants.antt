use Rattle.std.proofs.Common.{◌≡◌, take, vec_capacity}
use Rattle.count_lock.proofs.lock.counts_in.Given as goal

abbrev pub invariant-loop-number : goal.invariant-loop-number
invariant-loop-number g l = (l.counts.items ≡ take l.number (g.V.Counted.counts_of l.value)) × (vec_capacity l.counts ≡ l.passes)
