use Rattle.std.proofs.Common.{ℕ, ◌≤◌, ◌≡◌}
use Rattle.ct_vectors.specs.Vectors.{Divides}
use Rattle.ct_instance.specs.Jobs.{the_move}
use Rattle.ct_resume.proofs.reduced.is_undivided.Given as goal

abbrev pub invariant-loop-index : goal.invariant-loop-index
invariant-loop-index l = (j : ℕ) → 1 ≤ j → j ≤ l.index → (j ≡ l.number → ⊥) → Divides (the_move l.moves.moves j).head (the_move l.moves.moves l.number).head → ⊥
