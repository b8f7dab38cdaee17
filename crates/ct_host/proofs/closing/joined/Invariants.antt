use Rattle.std.proofs.Common.{◌≤◌, vec_len, vec_capacity}
use Rattle.std.specs.Vec.Iter.{into_iter_items}
use Rattle.ct_host.proofs.Joining.{Joining}
use Rattle.ct_host.proofs.closing.joined.Given as goal

abbrev pub invariant-loop-pass : goal.invariant-loop-pass
invariant-loop-pass l = record {
  joining : Joining l.lock l.all l.steps.items (into_iter_items l.pass-iterator) l.fn.passes.items;
  room : vec_len l.fn.passes ≤ vec_capacity l.steps;
}
