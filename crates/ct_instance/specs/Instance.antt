-- An integer program: the least cost of a list x of natural numbers with A x = b, for each b.
use Rattle.std.specs.Prelude.{ℕ, ℤ, ◌+◌, ◌*◌, ◌≤◌, ◌≡◌, List, [], ◌∷◌, ◌++◌, length, All}
use Rattle.ct_vectors.specs.Vectors.{total, add, scale, zeros, unit}
use Rattle.ct_vectors.specs.declared.limits.TheConstants.{ROW_LIMIT, COLUMN_LIMIT, COST_ROW_LIMIT, ENTRY_LIMIT}
use Rattle.ct_order.specs.Costs.{IsCostRow}

-- what an instance is seen as: m, the columns of A (a list of m numbers each), and the rows of costs
pub record Problem : Type 0 where
  pub rows : ℕ
  pub columns : List (List ℕ)
  pub cost_rows : List (List ℤ)

abbrev pub column_count : Problem → ℕ
column_count i = length i.columns

-- the number of coordinates of a point: x_1 to x_n, then the artificials y_1 to y_m
abbrev pub width_of : Problem → ℕ
width_of i = column_count i + i.rows

abbrev pub IsPoint : Problem → List ℕ → Type 0
IsPoint i p = length p ≡ width_of i

-- a column has m entries within the limit, and one of them isn't 0
pub record IsColumn (m : ℕ) (c : List ℕ) : Type 0 where
  pub entries : length c ≡ m
  pub limit : All (λ a. a ≤ ENTRY_LIMIT) c
  pub positive : 1 ≤ total c

pub record IsInstance (i : Problem) : Type 0 where
  pub some_row : 1 ≤ i.rows
  pub row_limit : i.rows ≤ ROW_LIMIT
  pub some_column : 1 ≤ column_count i
  pub column_limit : column_count i ≤ COLUMN_LIMIT
  pub is_column : All (IsColumn i.rows) i.columns
  pub some_cost_row : 1 ≤ length i.cost_rows
  pub cost_row_limit : length i.cost_rows ≤ COST_ROW_LIMIT
  pub is_cost_row : All (IsCostRow (column_count i)) i.cost_rows

-- a right-hand side: m numbers
abbrev pub IsRight : Problem → List ℕ → Type 0
IsRight i b = length b ≡ i.rows

-- A x + y, for the columns of A and the point (x, y)
abbrev pub degree_of : List (List ℕ) → List ℕ → List ℕ
degree_of [] p = p
degree_of (c ∷ cs) [] = []
degree_of (c ∷ cs) (x ∷ p) = add (scale x c) (degree_of cs p)

abbrev pub grade_of : List (List ℕ) → List ℕ → ℕ
grade_of cs p = total (degree_of cs p)

-- the point (0, b)
abbrev pub start_of : Problem → List ℕ → List ℕ
start_of i b = zeros (column_count i) ++ b

-- the point with x_j = 1, the index j from 0
abbrev pub unit_of : Problem → ℕ → List ℕ
unit_of i j = unit (column_count i) j ++ zeros i.rows

-- the grade by the sums of the columns: each coordinate times its column's sum, and the artificials
abbrev pub weighted : List ℕ → List ℕ → ℕ
weighted [] p = total p
weighted (s ∷ ss) [] = 0
weighted (s ∷ ss) (x ∷ p) = s * x + weighted ss p
