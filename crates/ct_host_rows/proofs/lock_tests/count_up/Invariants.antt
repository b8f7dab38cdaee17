use Rattle.std.proofs.Common.{◌≡◌, ◌<◌, length, None}
use Rattle.count_lock.specs.Pairs.{first_number}
use Rattle.count_lock.specs.Sight.{IsOfLock}
use Rattle.ct_host_rows.proofs.lock_tests.count_up.Given as goal

abbrev pub invariant-loop : goal.invariant-loop
invariant-loop g l = record {
  own : IsOfLock l.lock l.pass;
  idle : l.pass.held ≡ None;
  one_pair : length l.pass.pairs ≡ 1;
  number : first_number l.pass.pairs ≡ first_number l.initial.pass.pairs;
  low : first_number l.pass.pairs < 2;
}
