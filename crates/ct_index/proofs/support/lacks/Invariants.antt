use Rattle.std.proofs.Common.{ℕ, ◌≡◌}
use Rattle.std.specs.Int.{bit_at}
use Rattle.ct_index.proofs.support.lacks.Given as goal

abbrev pub decreases-loop-left : goal.decreases-loop-left
decreases-loop-left l = l.left

-- only coordinates of the mask are left
abbrev pub invariant-loop-left : goal.invariant-loop-left
invariant-loop-left l = (i : ℕ) → bit_at l.left i ≡ 1 → bit_at l.mask i ≡ 1
