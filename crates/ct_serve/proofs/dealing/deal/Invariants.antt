use Rattle.std.proofs.Common.{◌≡◌, ◌<◌, ◌^◌, ◌++◌, vec_len}
use Rattle.std.specs.Vec.Iter.{into_iter_items}
use Rattle.ct_serve.proofs.DealtParts.{AreDealt, AreInOrder}
use Rattle.ct_serve.proofs.dealing.deal.Given as goal

abbrev pub invariant-loop-pass : goal.invariant-loop-pass
invariant-loop-pass l = record {
  dealt : AreDealt l.phase l.workers l.yielded l.parts.items;
  in_order : vec_len l.fn.passes < 2 ^ 32 → AreInOrder l.phase l.workers l.who l.parts.items;
  rest : l.fn.passes.items ≡ l.yielded ++ into_iter_items l.pass-iterator;
}
