-- Files of either notation: as JSON where they begin as JSON does, and else as text.
use Rattle.std.specs.Prelude.{ℕ, if◌then◌else◌, List, Result, Ok}
use Rattle.ct_input.specs.declared.fault.Fault.{Fault}
use Rattle.ct_input.specs.declared.script.Script.{Script}
use Rattle.ct_input.specs.Sheet.{◌>>=◌}
use Rattle.ct_input.specs.Files as texts
use Rattle.ct_form.specs.Forms.{Form}
use Rattle.ct_form.specs.EqualityForms.{plain_form}
use Rattle.ct_form_text.specs.Files as form_texts
use Rattle.ct_json.specs.Values.{is_json}
use Rattle.ct_json.specs.Files.{instance_json, sessions_json}

-- the form of a JSON file, which is that of an instance
abbrev pub form_json : List ℕ → Result Form Fault
form_json bytes = instance_json bytes >>= (λ i. Ok (plain_form i))

-- the form of an instance file
unfoldable pub form_file : List ℕ → Result Form Fault
form_file bytes = if is_json bytes then form_json bytes else form_texts.form_file bytes

-- the script of a session file, for a form with m rows
unfoldable pub session_file : ℕ → List ℕ → Result Script Fault
session_file m bytes = if is_json bytes then sessions_json m bytes else texts.session_file m bytes
