-- Rows of costs.
use Rattle.std.specs.Prelude.{ℕ, ℤ, pos, nat_abs, ◌-◌, ◌≤◌, ◌≡◌, List, [], ◌∷◌, ◌++◌, length, take, drop, replicate, All, zero, suc}
use Rattle.ct_vectors.specs.declared.limits.TheConstants.{COLUMN_LIMIT, COST_ROW_LIMIT, COST_LIMIT}

-- what costs are seen as: the number of columns, and for each row the costs of the columns in order
pub record CostTable : Type 0 where
  pub columns : ℕ
  pub rows : List (List ℤ)

-- a row has n costs within their limit
pub record IsCostRow (n : ℕ) (row : List ℤ) : Type 0 where
  pub entries : length row ≡ n
  pub limit : All (λ c. nat_abs c ≤ COST_LIMIT) row

pub record IsCostTable (t : CostTable) : Type 0 where
  pub some_column : 1 ≤ t.columns
  pub column_limit : t.columns ≤ COLUMN_LIMIT
  pub some_row : 1 ≤ length t.rows
  pub row_limit : length t.rows ≤ COST_ROW_LIMIT
  pub is_row : All (IsCostRow t.columns) t.rows

-- so many rows of n costs that stand one after another
abbrev pub rows_of : ℕ → ℕ → List ℤ → List (List ℤ)
rows_of zero n costs = []
rows_of (suc r) n costs = take n costs ∷ rows_of r n (drop n costs)

-- a list of costs with zeros behind it, eight numbers in all
abbrev pub padded : List ℤ → List ℤ
padded costs = costs ++ replicate (COST_ROW_LIMIT - length costs) (pos 0)
