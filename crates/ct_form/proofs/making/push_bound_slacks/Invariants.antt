use Rattle.std.proofs.Common.{◌≡◌, ◌-◌, ◌++◌, map}
use Rattle.ct_vectors.specs.Vectors.{zeros}
use Rattle.ct_form.specs.EqualityForms.{bound_slacks}
use Rattle.ct_form.proofs.Made.{units_from}
use Rattle.ct_form.proofs.making.push_bound_slacks.Given as goal

-- what was made, and what is still to make
abbrev pub invariant-loop-place : goal.invariant-loop-place
invariant-loop-place l = l.made.items ++ map (λ c. zeros l.rows ++ c) (units_from l.bound_count l.place (l.bound_count - l.place)) ≡
    l.fn.made.items ++ map (λ c. zeros l.rows ++ c) (bound_slacks l.bound_count)
