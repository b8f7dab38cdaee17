use Rattle.std.proofs.Common.{◌≡◌}
use Rattle.ct_host_bench.proofs.calls.by_calls.Given as goal

abbrev pub invariant-loop : goal.invariant-loop
invariant-loop g l = l.book.passes ≡ 1
