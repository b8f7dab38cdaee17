use Rattle.std.proofs.Common.{◌≡◌, map, take}
use Rattle.std.specs.Arc.{arc_value}
use Rattle.ct_walk.proofs.slabs.shared.Given as goal

abbrev pub invariant-loop-slab : goal.invariant-loop-slab
invariant-loop-slab l = map arc_value l.made.items ≡ map arc_value (take l.slab-index l.slabs)
