-- What a whole file stands for.
use Rattle.std.specs.Prelude.{ℕ, ◌≡◌, ◌+◌, ◌≤◌, All, List, length, Option, Some, None, Result, Ok, Err}
use Rattle.ct_vectors.specs.declared.limits.TheConstants.{ROW_LIMIT, COLUMN_LIMIT, RIGHT_LIMIT}
use Rattle.ct_text.specs.Tokens.{text_of}
use Rattle.ct_instance.specs.Made.{columns_of}
use Rattle.ct_input.specs.declared.limits.TheConstants.{INSTANCE_FILE_LIMIT}
use Rattle.ct_input.specs.declared.fault.Fault.{Fault}
use Rattle.ct_input.specs.declared.fault.TextReason.TheVariants.{ZeroColumn}
use Rattle.ct_input.specs.Sheet.{Sheet, ◌>>=◌, sheet_of, fault_next}
use Rattle.ct_input.specs.Files.{value_in, within, entry_sheet}
use Rattle.ct_form.specs.declared.relation.Limits.{Limits}
use Rattle.ct_form.specs.Forms.{Form, given_in}
use Rattle.ct_form.specs.EqualityForms.{row_slacks}
use Rattle.ct_form.specs.Kept.{free_zero_of}
use Rattle.ct_form.specs.Made.{form_of, HasNumbers}
use Rattle.ct_form_text.specs.declared.draft.FormDraft.{FormDraft}
use Rattle.ct_form_text.specs.FormText.{form_text}

-- the numbers of a form file, or the first fault that a token has
unfoldable pub draft_file : List ℕ → Result FormDraft Fault
draft_file bytes = within INSTANCE_FILE_LIMIT bytes (value_in form_text bytes)

-- the equality form has room for the rows and columns that relations and bounds add, and each bound is within its limit
pub record HasRoom (m n : ℕ) (held : Limits) : Type 0 where
  pub relation_count : length held.relations ≡ m
  pub bound_for_each : length held.bounds ≡ n
  pub row_room : m + length (given_in held.bounds) ≤ ROW_LIMIT
  pub column_room : n + (length (row_slacks held.relations) + length (given_in held.bounds)) ≤ COLUMN_LIMIT
  pub bound_limit : All (λ u. u ≤ RIGHT_LIMIT) (given_in held.bounds)

abbrev pub AreNumbers : FormDraft → Type 0
AreNumbers d = HasNumbers d.rows d.columns d.entries d.limits d.costs

-- the form of these numbers, or the fault of the least column that is zero and has no bound, at its entry in row 1
unfoldable pub made_of : Sheet → FormDraft → Option ℕ → Result Form Fault
made_of sheet d None = Ok (form_of d.rows d.columns d.entries d.limits d.costs)
made_of sheet d (Some column) = Err (fault_next ZeroColumn (entry_sheet sheet (column + 1)))

-- the form of a file
unfoldable pub form_file : List ℕ → Result Form Fault
form_file bytes =
    within INSTANCE_FILE_LIMIT bytes (value_in form_text bytes >>= λ d. made_of (sheet_of (text_of bytes)) d (free_zero_of (columns_of d.rows d.columns d.entries) d.limits.bounds))
