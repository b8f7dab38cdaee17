use Rattle.std.proofs.Common.{◌≡◌, ◌+◌, ◌++◌, length, drop}
use Rattle.ct_instance.specs.Made.{columns_of}
use Rattle.ct_form.specs.Forms.{given_in}
use Rattle.ct_form.specs.EqualityForms.{over, bound_parts}
use Rattle.ct_form.proofs.Made.{parts_from}
use Rattle.ct_form.proofs.making.columns_with_parts.Given as goal

-- what was made, and what is still to make, with the place of the next bound
abbrev pub invariant-loop-j : goal.invariant-loop-j
invariant-loop-j l = record {
  made : l.made.items ++ over (drop l.j (columns_of l.rows l.columns l.entries)) (parts_from l.bound_count l.place (drop l.j l.bounds)) ≡
      over (columns_of l.rows l.columns l.entries) (bound_parts l.bounds);
  place : l.place + length (given_in (drop l.j l.bounds)) ≡ l.bound_count;
}
