use Rattle.std.proofs.Common.{◌≡◌, ◌++◌}
use Rattle.std.specs.Vec.Iter.{into_iter_items}
use Rattle.ct_walk.proofs.SlabFacts.{Growing}
use Rattle.ct_walk.proofs.slabs.grown.Given as goal

-- the slabs have the moves so far, and the others are still to come
abbrev pub invariant-loop-mv : goal.invariant-loop-mv
invariant-loop-mv l = Growing l.inst l.slabs l.yielded l.made.items l.open × (l.fn.more.items ≡ l.yielded ++ into_iter_items l.mv-iterator)
