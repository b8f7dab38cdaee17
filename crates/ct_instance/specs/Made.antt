-- What the numbers of a file make: the instance with these entries and costs, or the first thing wrong with them.
use Rattle.std.specs.Prelude.{ℕ, ℤ, ◌+◌, ◌/◌, ◌%◌, ◌*◌, ◌≤◌, ◌≡◌, All, ◌&&◌, nat_le, nat_lt, nat_eq, nat_abs, cond, Option, Some, None, List, [], ◌∷◌, ◌++◌, length, map, drop, slice_index, position, zero, suc}
use Rattle.std.specs.Option.{option_or, option_map}
use Rattle.ct_vectors.specs.Vectors.{total}
use Rattle.ct_vectors.specs.declared.limits.TheConstants.{ROW_LIMIT, COLUMN_LIMIT, ENTRY_LIMIT, COST_LIMIT}
use Rattle.ct_order.specs.Costs.{rows_of}
use Rattle.ct_instance.specs.declared.refusals.BadInstance.{BadInstance}
use Rattle.ct_instance.specs.declared.refusals.BadInstance.TheVariants.{Rows, Columns, Entry, ZeroColumn, Cost, Memory}
use Rattle.ct_instance.specs.declared.refusals.BadMatrix.{BadMatrix}
use Rattle.ct_instance.specs.declared.refusals.BadMatrix.TheVariants as unmade
use Rattle.ct_instance.specs.Instance.{Problem, IsInstance, column_count}

-- the numbers below n
abbrev pub indices : ℕ → List ℕ
indices zero = []
indices (suc n) = indices n ++ n ∷ []

-- the column with the index j, from 0, of m rows of n entries that stand one after another
abbrev pub column_of : ℕ → ℕ → ℕ → List ℕ → List ℕ
column_of zero n j entries = []
column_of (suc m) n j entries = slice_index entries j ∷ column_of m n j (drop n entries)

abbrev pub columns_of : ℕ → ℕ → List ℕ → List (List ℕ)
columns_of m n entries = map (λ j. column_of m n j entries) (indices n)

-- the costs are rows of n that stand one after another
abbrev pub problem_of : ℕ → ℕ → List ℕ → List ℤ → Problem
problem_of m n entries costs = record { rows = m; columns = columns_of m n entries; cost_rows = rows_of (length costs / n) n costs }

abbrev pub refused_rows : ℕ → Option BadInstance
refused_rows m = cond (nat_le 1 m && nat_le m ROW_LIMIT) None (Some Rows)

abbrev pub refused_columns : ℕ → Option BadInstance
refused_columns n = cond (nat_le 1 n && nat_le n COLUMN_LIMIT) None (Some Columns)

-- the first entry over the limit, row by row
abbrev pub refused_entry : ℕ → List ℕ → Option BadInstance
refused_entry n entries = option_map (λ k. Entry (k / n + 1) (k % n + 1)) (position (λ a. nat_lt ENTRY_LIMIT a) entries)

-- the first of the columns' sums that is 0
abbrev pub refused_sum : List ℕ → Option BadInstance
refused_sum sums = option_map (λ j. ZeroColumn (j + 1)) (position (λ s. nat_eq s 0) sums)

-- the first cost out of its limit, row by row
abbrev pub refused_cost : ℕ → List ℤ → Option BadInstance
refused_cost n costs = option_map (λ k. Cost (k / n + 1) (k % n + 1)) (position (λ c. nat_lt COST_LIMIT (nat_abs c)) costs)

-- the first thing wrong
abbrev pub refusal_of : ℕ → ℕ → List ℕ → List ℤ → Option BadInstance
refusal_of m n entries costs =
    option_or (refused_rows m) (option_or (refused_columns n) (option_or (refused_entry n entries)
    (option_or (refused_sum (map total (columns_of m n entries))) (refused_cost n costs))))

-- the first column, from 0, whose entries are all 0
abbrev pub zero_column_of : ℕ → ℕ → List ℕ → Option ℕ
zero_column_of m n entries = position (λ sum. nat_eq sum 0) (map total (columns_of m n entries))

-- the refusal is that of the first zero column, unless memory ran out
abbrev pub NamesZeroColumn : BadMatrix → Option ℕ → Type 0
NamesZeroColumn unmade.Memory zero_column = Unit {0}
NamesZeroColumn (unmade.ZeroColumn col) zero_column = option_map (λ j. j + 1) zero_column ≡ Some col

-- the same refusal among all
abbrev pub bad_instance_of : BadMatrix → BadInstance
bad_instance_of unmade.Memory = Memory
bad_instance_of (unmade.ZeroColumn col) = ZeroColumn col

-- what an instance keeps: the sums of its columns beside them, and rows of costs of as many columns
pub record IsKept (i : Problem) (sums : List ℕ) (cost_columns : ℕ) : Type 0 where
  pub instance : IsInstance i
  pub sums_of_columns : sums ≡ map total i.columns
  pub sum_limit : All (λ s. s ≤ ROW_LIMIT * ENTRY_LIMIT) sums
  pub cost_columns_are : cost_columns ≡ column_count i
