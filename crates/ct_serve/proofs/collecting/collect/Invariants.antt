use Rattle.std.proofs.Common.{◌≡◌, ◌++◌, length, vec_len}
use Rattle.std.specs.Vec.Iter.{into_iter_items}
use Rattle.ct_serve.specs.Served.{AreCollected}
use Rattle.ct_serve.proofs.collecting.collect.Given as goal

abbrev pub invariant-loop-done : goal.invariant-loop-done
invariant-loop-done l = record {
  collected : AreCollected l.yielded l.passes.items l.told.items;
  count : vec_len l.passes ≡ length l.yielded;
  rest : l.fn.dones.items ≡ l.yielded ++ into_iter_items l.done-iterator;
}
