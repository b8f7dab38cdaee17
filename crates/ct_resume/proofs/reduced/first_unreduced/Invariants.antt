use Rattle.std.proofs.Common.{ℕ, ◌≤◌}
use Rattle.ct_resume.specs.Reduced.{IsReducedAt}
use Rattle.ct_resume.proofs.reduced.first_unreduced.Given as goal

abbrev pub invariant-loop-index : goal.invariant-loop-index
invariant-loop-index l = (j : ℕ) → 1 ≤ j → j ≤ l.index → IsReducedAt l.moves.instance l.moves.moves j
