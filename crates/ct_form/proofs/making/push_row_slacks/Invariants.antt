use Rattle.std.proofs.Common.{◌≡◌, ◌++◌, length, map, drop}
use Rattle.ct_vectors.specs.Vectors.{zeros}
use Rattle.ct_form.specs.EqualityForms.{row_slacks}
use Rattle.ct_form.proofs.Made.{slacks_from}
use Rattle.ct_form.proofs.making.push_row_slacks.Given as goal

-- what was made, and what is still to make
abbrev pub invariant-loop-i : goal.invariant-loop-i
invariant-loop-i l = l.made.items ++ map (λ c. c ++ zeros l.bound_count) (slacks_from (length l.relations) l.i (drop l.i l.relations)) ≡
    l.fn.made.items ++ map (λ c. c ++ zeros l.bound_count) (row_slacks l.relations)
