use Rattle.std.proofs.Common.{◌≡◌, ◌≤◌, ◌++◌, vec_len, vec_capacity}
use Rattle.std.specs.Vec.Iter.{into_iter_items}
use Rattle.ct_host.proofs.Dealing.{Dealing}
use Rattle.ct_host.proofs.opening.deal.Given as goal

abbrev pub invariant-loop-lock_pass : goal.invariant-loop-lock_pass
invariant-loop-lock_pass l = record {
  dealing : Dealing l.cell l.lock l.first l.yielded l.made.items;
  rest : l.fn.locks.items ≡ l.yielded ++ into_iter_items l.lock_pass-iterator;
  room : vec_len l.fn.locks ≤ vec_capacity l.made;
}
