-- What a whole JSON file stands for.
use Rattle.std.specs.Prelude.{ℕ, if◌then◌else◌, List, [], ◌∷◌, Option, Some, None, Result, Ok, Err}
use Rattle.std.specs.Str.{is_utf8}
use Rattle.serde_json.specs.Data.{Data}
use Rattle.serde_json.specs.Read.{read}
use Rattle.ct_instance.specs.Instance.{Problem}
use Rattle.ct_instance.specs.Made.{problem_of, zero_column_of}
use Rattle.ct_input.specs.declared.limits.TheConstants.{INSTANCE_FILE_LIMIT, SESSION_FILE_LIMIT}
use Rattle.ct_input.specs.declared.draft.Draft.{Draft}
use Rattle.ct_input.specs.declared.script.Script.{Script}
use Rattle.ct_input.specs.declared.fault.Fault.{Fault}
use Rattle.ct_input.specs.declared.fault.Fault.TheVariants.{JsonSyntax}
use Rattle.ct_input.specs.declared.path.PathStep.TheVariants.{Member, Index}
use Rattle.ct_input.specs.declared.path.Name.TheVariants.{Matrix}
use Rattle.ct_input.specs.declared.path.JsonReason.TheVariants.{ZeroColumn}
use Rattle.ct_input.specs.Sheet.{◌>>=◌}
use Rattle.ct_input.specs.Files.{within}
use Rattle.ct_json.specs.Values.{refuse}
use Rattle.ct_json.specs.InstanceShape.{draft_at}
use Rattle.ct_json.specs.SessionShape.{script_at}

abbrev pub or_syntax : Option Data → Result Data Fault
or_syntax None = Err JsonSyntax
or_syntax (Some d) = Ok d

-- the value that a text is, as the crate of JSON reads it
abbrev pub value_of : List ℕ → Result Data Fault
value_of bytes = or_syntax (if is_utf8 bytes then read bytes else None)

-- the instance of these numbers, or the fault at the entry of its first zero column, from 0, in the first row
abbrev pub made_of : Draft → Option ℕ → Result Problem Fault
made_of draft None = Ok (problem_of draft.rows draft.columns draft.entries draft.costs)
made_of draft (Some column) = refuse (Member Matrix ∷ Index 0 ∷ Index column ∷ []) ZeroColumn

-- the instance of a JSON file
unfoldable pub instance_json : List ℕ → Result Problem Fault
instance_json bytes =
    within INSTANCE_FILE_LIMIT bytes (value_of bytes >>= λ d. draft_at [] d >>= λ draft. made_of draft (zero_column_of draft.rows draft.columns draft.entries))

-- the script of a JSON file, for an instance with m rows
unfoldable pub sessions_json : ℕ → List ℕ → Result Script Fault
sessions_json m bytes = within SESSION_FILE_LIMIT bytes (value_of bytes >>= λ d. script_at m [] d)
