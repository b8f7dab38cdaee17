-- What the numbers of a form make, column by column.
use Rattle.std.specs.Prelude.{ℕ, ℤ, pos, ◌≡◌, ◌≤◌, ◌+◌, ◌*◌, ◌%◌, nat_abs, All, ◌/◌, ◌++◌, List, [], ◌∷◌, length, take, drop, replicate, Option, Some, None, zero, suc}
use Rattle.ct_vectors.specs.Vectors.{zeros, unit}
use Rattle.ct_vectors.specs.declared.limits.TheConstants.{ROW_LIMIT, COLUMN_LIMIT, COST_ROW_LIMIT, ENTRY_LIMIT, COST_LIMIT, RIGHT_LIMIT}
use Rattle.ct_order.specs.Costs.{rows_of}
use Rattle.ct_instance.specs.Made.{columns_of}
use Rattle.ct_form.specs.declared.relation.Relation.{Relation}
use Rattle.ct_form.specs.declared.relation.Relation.TheVariants.{Eq, Le}
use Rattle.ct_form.specs.declared.relation.Limits.{Limits}
use Rattle.ct_form.specs.Forms.{Form, given_in}
use Rattle.ct_form.specs.EqualityForms.{row_slacks}

-- the form with these entries and costs, which stand row after row
abbrev pub form_of : ℕ → ℕ → List ℕ → Limits → List ℤ → Form
form_of m n entries held costs =
    record { rows = m; columns = columns_of m n entries; cost_rows = rows_of (length costs / n) n costs; relations = held.relations; bounds = held.bounds }

-- each row is equal to its right-hand side, and no variable has a bound
abbrev pub plain_limits : ℕ → ℕ → Limits
plain_limits m n = record { relations = replicate m Eq; bounds = replicate n None }

-- how many rows and columns a bound adds
abbrev pub given_of : Option ℕ → ℕ
given_of None = 0
given_of (Some u) = 1

-- what a column has in the rows of k bounds, of which its own would be the one with this index
abbrev pub part_at : Option ℕ → ℕ → ℕ → List ℕ
part_at None k place = zeros k
part_at (Some u) k place = unit k place

-- the slack column of the row with the index i, if it has one
abbrev pub slack_at : Relation → ℕ → ℕ → List (List ℕ)
slack_at Eq m i = []
slack_at Le m i = unit m i ∷ []

-- so many rows of n costs that stand one after another, each with k costs of 0 behind
abbrev pub padded_costs : ℕ → ℕ → ℕ → List ℤ → List ℤ
padded_costs zero n k costs = []
padded_costs (suc r) n k costs = (take n costs ++ replicate k (pos 0)) ++ padded_costs r n k (drop n costs)

-- the numbers of a form are as many as they should be, each within its limit, and its equality form has room
pub record HasNumbers (m n : ℕ) (entries : List ℕ) (held : Limits) (costs : List ℤ) : Type 0 where
  pub some_row : 1 ≤ m
  pub some_column : 1 ≤ n
  pub relation_count : length held.relations ≡ m
  pub bound_for_each : length held.bounds ≡ n
  pub row_room : m + length (given_in held.bounds) ≤ ROW_LIMIT
  pub column_room : n + (length (row_slacks held.relations) + length (given_in held.bounds)) ≤ COLUMN_LIMIT
  pub entry_count : length entries ≡ m * n
  pub entry_limit : All (λ a. a ≤ ENTRY_LIMIT) entries
  pub bound_limit : All (λ u. u ≤ RIGHT_LIMIT) (given_in held.bounds)
  pub whole_rows : length costs % n ≡ 0
  pub some_cost_row : n ≤ length costs
  pub few_cost_rows : length costs ≤ COST_ROW_LIMIT * n
  pub cost_limit : All (λ c. nat_abs c ≤ COST_LIMIT) costs
