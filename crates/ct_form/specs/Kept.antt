-- What a form keeps: its equality form, from which its own matrix and costs are read.
use Rattle.std.specs.Prelude.{ℕ, ◌≡◌, Bool, false, List, length, map, take, nat_eq, position, Option, Some, None}
use Rattle.std.specs.List.{zip}
use Rattle.ct_vectors.specs.Vectors.{total}
use Rattle.ct_instance.specs.Instance.{Problem}
use Rattle.ct_form.specs.declared.relation.Relation.{Relation}
use Rattle.ct_form.specs.Forms.{Form, given_in}
use Rattle.ct_form.specs.EqualityForms.{equal_of, IsForm}

-- the form of m rows and n columns with this equality form
abbrev pub form_in : ℕ → ℕ → List Relation → List (Option ℕ) → Problem → Form
form_in m n relations bounds i =
    record { rows = m; columns = map (take m) (take n i.columns); cost_rows = map (take n) i.cost_rows; relations = relations; bounds = bounds }

-- a column is zero and its variable has no bound
abbrev pub is_free_zero : List ℕ × Option ℕ → Bool
is_free_zero (c, None) = nat_eq (total c) 0
is_free_zero (c, Some u) = false

-- the least such column, from 0
abbrev pub free_zero_of : List (List ℕ) → List (Option ℕ) → Option ℕ
free_zero_of columns bounds = position is_free_zero (zip columns bounds)

-- what a form keeps: its equality form, and the bounds that it has
pub record IsKept (m n : ℕ) (relations : List Relation) (bounds : List (Option ℕ)) (given : List ℕ) (i : Problem) : Type 0 where
  pub form : IsForm (form_in m n relations bounds i)
  pub columns : length (form_in m n relations bounds i).columns ≡ n
  pub equal : i ≡ equal_of (form_in m n relations bounds i)
  pub given_are : given ≡ given_in bounds
