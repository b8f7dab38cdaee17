use Rattle.std.proofs.Common.{◌≡◌, take}
use Rattle.ct_rows.proofs.index_tests.index_of.Given as goal

abbrev pub invariant-loop-head : goal.invariant-loop-head
invariant-loop-head g l = l.index ≡ take l.head-index l.heads
