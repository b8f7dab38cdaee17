use Rattle.std.proofs.Common.{◌≡◌, None, take}
use Rattle.std.specs.List.{position, flat_map}
use Rattle.std.specs.Arc.{arc_value}
use Rattle.ct_vectors.specs.Vectors.{divides}
use Rattle.ct_walk.proofs.move_list.Moves.first_dividing.Given as goal

-- no head of the slabs so far divides p
abbrev pub invariant-loop-k : goal.invariant-loop-k
invariant-loop-k l = position (λ m. divides m.head l.p) (flat_map arc_value (take l.k l.self-inside.slabs.items)) ≡ None
