-- The JSON form of an instance.
use Rattle.std.specs.Prelude.{ℕ, ℤ, ◌≡◌, ◌≤◌, All, Bool, if◌then◌else◌, List, [], ◌∷◌, length, Option, Some, None, option_and_then, is_some, Result, Ok}
use Rattle.std.specs.List.{flat_map}
use Rattle.serde_json.specs.Data.{Data}
use Rattle.serde_json.specs.Find.{at, as_array}
use Rattle.ct_vectors.specs.declared.limits.TheConstants.{ROW_LIMIT, COLUMN_LIMIT, COST_ROW_LIMIT, ENTRY_LIMIT, COST_LIMIT}
use Rattle.ct_input.specs.declared.draft.Draft.{Draft}
use Rattle.ct_input.specs.declared.fault.Fault.{Fault}
use Rattle.ct_input.specs.declared.path.PathStep.{PathStep}
use Rattle.ct_input.specs.declared.path.PathStep.TheVariants.{Index}
use Rattle.ct_input.specs.declared.path.Name.TheVariants.{Instance, Matrix, Cost}
use Rattle.ct_input.specs.Sheet.{◌>>=◌}
use Rattle.ct_json.specs.Values.{◌▹◌, object_at, no_others}
use Rattle.ct_json.specs.Shapes.{Shape, each, items_at, list_of, naturals, signed, form_at, member_as}

-- the rows one after another
abbrev pub joined : {A : Type 0} → List (List A) → List A
joined rows = flat_map (λ row. row) rows

-- the length of the first row
abbrev pub row_length : List (List ℕ) → ℕ
row_length [] = 0
row_length (row ∷ rows) = length row

-- Each row has as many entries as the first.
abbrev pub rows_at : List PathStep → List Data → Result (List (List ℕ)) Fault
rows_at here [] = Ok []
rows_at here (d ∷ ds) =
    (naturals 1 COLUMN_LIMIT ENTRY_LIMIT).reads 0 (here ▹ Index 0) d >>= λ row.
    each (naturals (length row) (length row) ENTRY_LIMIT) here 1 0 ds >>= λ rows. Ok (row ∷ rows)

abbrev pub matrix_at : List PathStep → Data → Result (List (List ℕ)) Fault
matrix_at here d = items_at 1 ROW_LIMIT here d >>= λ ds. rows_at here ds

-- one to 16 rows of one length, of 1 to 64 entries within their limit
pub record IsMatrix (rows : List (List ℕ)) : Type 0 where
  pub some_row : 1 ≤ length rows
  pub few_rows : length rows ≤ ROW_LIMIT
  pub some_column : 1 ≤ row_length rows
  pub few_columns : row_length rows ≤ COLUMN_LIMIT
  pub even : All (λ row. length row ≡ row_length rows) rows
  pub limit : All (λ row. All (λ a. a ≤ ENTRY_LIMIT) row) rows

-- its first item is an array
abbrev pub begins_with_array : Data → Bool
begins_with_array d = is_some (option_and_then as_array (at 0 d))

abbrev pub cost_row : ℕ → Shape (List ℤ)
cost_row n = list_of n n (signed COST_LIMIT)

-- one to eight rows of n costs
abbrev pub cost_rows_at : ℕ → List PathStep → Data → Result (List ℤ) Fault
cost_rows_at n here d = (list_of 1 COST_ROW_LIMIT (cost_row n)).reads 0 here d >>= λ rows. Ok (joined rows)

-- one row of n costs, or an array of such rows
abbrev pub costs_at : ℕ → List PathStep → Data → Result (List ℤ) Fault
costs_at n here d =
    if begins_with_array d then cost_rows_at n here d else (cost_row n).reads 0 here d

abbrev pub draft_of : List (List ℕ) → List ℤ → Draft
draft_of rows costs = record { rows = length rows; columns = row_length rows; entries = joined rows; costs = costs }

-- the numbers of an instance object
unfoldable pub draft_at : List PathStep → Data → Result Draft Fault
draft_at here d =
    object_at here d >>= λ _. member_as Instance form_at here d >>= λ _. member_as Matrix matrix_at here d >>= λ rows.
    member_as Cost (costs_at (row_length rows)) here d >>= λ costs.
    no_others (Instance ∷ Matrix ∷ Cost ∷ []) here d >>= λ _. Ok (draft_of rows costs)
