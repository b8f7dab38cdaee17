use Rattle.std.proofs.Common.{◌≡◌, None, take}
use Rattle.std.specs.List.{position, flat_map}
use Rattle.ct_vectors.specs.Vectors.{divides}
use Rattle.ct_index.proofs.index.HeadIndex.first_dividing.Given as goal

-- no head of the blocks so far divides p
abbrev pub invariant-loop-k : goal.invariant-loop-k
invariant-loop-k l = position (λ h. divides h l.p) (flat_map (λ b. b) (take l.k l.self-inside.blocks.items)) ≡ None
