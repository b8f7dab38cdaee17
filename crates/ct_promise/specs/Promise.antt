-- The promise: what was written by `answer` and `serve` where they ended as Done. The statements at the end are contracts of
-- functions in the module `laws`, and `KeepsPromise` that of the calls.
use Rattle.std.specs.Prelude.{ℕ, ◌≡◌, Bool, List, Option, Some, Ok, String, map, string_bytes}
use Rattle.std.specs.declared.alloc.Global.{Global}
use Rattle.std.specs.Io.KnownBytes.{Appends}
use Rattle.ct_outside.specs.Shelf.{Told, HasFile}
use Rattle.ct_input.specs.declared.script.Script.{Script}
use Rattle.ct_input.specs.Accepted.{IsAcceptedScript}
use Rattle.ct_report.specs.declared.reports.Report.{Report}
use Rattle.ct_report.specs.ReportText.{report_text}
use Rattle.ct_legal.specs.Scripts.{with_solves}
use Rattle.ct_form.specs.Forms.{Form}
use Rattle.ct_form.specs.EqualityForms.{IsForm}
use Rattle.ct_form_report.specs.FormHeadline.{AreTrueOfForm}
use Rattle.ct_run.specs.declared.status.Status.TheVariants.{Done}
use Rattle.ct_run.specs.Words.{answer, Command, on, serve, command_of}
use Rattle.ct_run.specs.Forms.{form_file, session_file}
use Rattle.ct_run.specs.Outcome.{Wrote}
use Rattle.ct_run.specs.Plan.{plan_in, batch_plan_in, batch_of, plain_plan_in, plain_of}
use Rattle.ct_run.specs.Running.{Ends}
use Rattle.ct_run.specs.Laws.{IsReadAs}

-- these are the bytes of the file, as far as they are told
abbrev pub AreBytesOf : Told → List ℕ → Type 0
AreBytesOf told bytes = HasFile told (λ file. bytes ≡ file)

-- The files of these names stand for a form and a script, and what was appended is the text of one report, each line
-- of which is true of its request; `taken` is the script as the command takes it.
pub record IsTrueRun (told : List ℕ → Told) (old new : Option (List ℕ)) (instance_name sessions_name : List ℕ) (limit : ℕ) (walks levels : Bool) (taken : Script → Script) : Type 0 where
  pub instance_bytes : List ℕ
  pub instance_told : AreBytesOf (told instance_name) instance_bytes
  pub form : Form
  pub form_read : form_file instance_bytes ≡ Ok form
  pub is_form : IsForm form
  pub sessions_bytes : List ℕ
  pub sessions_told : AreBytesOf (told sessions_name) sessions_bytes
  pub script : Script
  pub script_read : session_file form.rows sessions_bytes ≡ Ok script
  pub is_script : IsAcceptedScript form.rows script
  pub report : Report
  pub written : Appends old new (report_text report)
  pub one : IsReadAs report
  pub true_lines : AreTrueOfForm form limit walks levels (taken script).phases report.phases

-- `answer` takes each ask as a solve, and `serve` the script as it stands; of other commands this says nothing
abbrev pub KeepsPromise : (List ℕ → Told) → Option (List ℕ) → Option (List ℕ) → Option Command → Type 0
KeepsPromise told old new (Some (on instance (answer sessions walks levels batch moves))) = IsTrueRun told old new instance sessions moves walks levels with_solves
KeepsPromise told old new (Some (serve instance sessions resume workers walks levels moves)) = IsTrueRun told old new instance sessions moves walks levels (λ script. script)
KeepsPromise told old new command = Unit {0}

-- what `run` ensures where it ends as Done is enough
abbrev pub Promise : Type 0
Promise =
    (words : List (String Global)) (told : List ℕ → Told) (old new : Option (List ℕ)) → Ends (plan_in words) told (Wrote Done old new) →
    KeepsPromise told old new (command_of (map string_bytes words))

-- and what `run_batch` ensures, for which the words of `serve` are none of a command
abbrev pub BatchPromise : Type 0
BatchPromise =
    (words : List (String Global)) (told : List ℕ → Told) (old new : Option (List ℕ)) → Ends (batch_plan_in words) told (Wrote Done old new) →
    KeepsPromise told old new (batch_of (command_of (map string_bytes words)))

-- and what `run_plain` ensures, for which those with `--batch` are none either
abbrev pub PlainPromise : Type 0
PlainPromise =
    (words : List (String Global)) (told : List ℕ → Told) (old new : Option (List ℕ)) → Ends (plain_plan_in words) told (Wrote Done old new) →
    KeepsPromise told old new (plain_of (command_of (map string_bytes words)))
