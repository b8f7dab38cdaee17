use Rattle.std.proofs.Common.{◌≡◌}
use Rattle.count_lock.proofs.lock.CountLock.lock.Given as goal

abbrev pub invariant-loop : goal.invariant-loop
invariant-loop g l = l.pass ≡ l.initial.pass
