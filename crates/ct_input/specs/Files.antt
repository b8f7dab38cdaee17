-- What a whole file stands for.
use Rattle.std.specs.Prelude.{◌≡◌, ℕ, ◌+◌, ◌*◌, ◌%◌, ◌≤◌, nat_abs, All, List, length, drop, nat_lt, if◌then◌else◌, Option, Some, None, Result, Ok, Err}
use Rattle.ct_vectors.specs.declared.limits.TheConstants.{ROW_LIMIT, COLUMN_LIMIT, COST_ROW_LIMIT, ENTRY_LIMIT, COST_LIMIT}
use Rattle.ct_input.specs.declared.limits.TheConstants.{INSTANCE_FILE_LIMIT, SESSION_FILE_LIMIT}
use Rattle.ct_instance.specs.Instance.{Problem}
use Rattle.ct_instance.specs.Made.{problem_of, zero_column_of}
use Rattle.ct_text.specs.Tokens.{text_of}
use Rattle.ct_input.specs.declared.fault.Fault.{Fault}
use Rattle.ct_input.specs.declared.fault.Fault.TheVariants.{TooLong}
use Rattle.ct_input.specs.declared.script.Script.{Script}
use Rattle.ct_input.specs.declared.fault.TextReason.TheVariants.{ZeroColumn}
use Rattle.ct_input.specs.declared.draft.Draft.{Draft}
use Rattle.ct_input.specs.Sheet.{Sheet, ◌>>=◌, sheet_of, fault_next}
use Rattle.ct_input.specs.InstanceText.{instance_text}
use Rattle.ct_input.specs.Grammar.{Grammar, read}
use Rattle.ct_input.specs.SessionText.{session_text}

-- the value of a text, or its first fault
abbrev pub value_in : {A : Type 0} → Grammar A → List ℕ → Result A Fault
value_in grammar bytes = read grammar (sheet_of (text_of bytes)) >>= λ x. Ok x.0

-- a file over its limit has that fault alone
abbrev pub within : {A : Type 0} → ℕ → List ℕ → Result A Fault → Result A Fault
within limit bytes value = if nat_lt limit (length bytes) then Err TooLong else value

-- the script of a session file, for an instance with m rows
unfoldable pub session_file : ℕ → List ℕ → Result Script Fault
session_file m bytes = within SESSION_FILE_LIMIT bytes (value_in (session_text m) bytes)

-- each number is within its limit, and so many entries and one to eight rows of costs are there
pub record HasCounts (draft : Draft) : Type 0 where
  pub some_row : 1 ≤ draft.rows
  pub few_rows : draft.rows ≤ ROW_LIMIT
  pub some_column : 1 ≤ draft.columns
  pub few_columns : draft.columns ≤ COLUMN_LIMIT
  pub entries : length draft.entries ≡ draft.rows * draft.columns
  pub entry_limit : All (λ a. a ≤ ENTRY_LIMIT) draft.entries
  pub whole_rows : length draft.costs % draft.columns ≡ 0
  pub some_cost_row : draft.columns ≤ length draft.costs
  pub few_cost_rows : length draft.costs ≤ COST_ROW_LIMIT * draft.columns
  pub cost_limit : All (λ c. nat_abs c ≤ COST_LIMIT) draft.costs

-- a text from the entry in row 1 of a column on, the column from 1: before it stand 7 tokens and the entries to its left
abbrev pub entry_sheet : Sheet → ℕ → Sheet
entry_sheet sheet column = record { tokens = drop (6 + column) sheet.tokens; end = sheet.end }

-- the instance of these numbers, or the fault of its first zero column
unfoldable pub made_of : Sheet → Draft → Option ℕ → Result Problem Fault
made_of sheet draft None = Ok (problem_of draft.rows draft.columns draft.entries draft.costs)
made_of sheet draft (Some column) = Err (fault_next ZeroColumn (entry_sheet sheet (column + 1)))

-- the instance of a file
unfoldable pub instance_file : List ℕ → Result Problem Fault
instance_file bytes = within INSTANCE_FILE_LIMIT bytes (value_in instance_text bytes >>= λ draft. made_of (sheet_of (text_of bytes)) draft (zero_column_of draft.rows draft.columns draft.entries))
