-- What accepted files of either notation stand for. Each statement is the contract of a function in the module `laws`.
use Rattle.std.specs.Prelude.{ℕ, ◌≡◌, ◌≤◌, Bool, List, Ok}
use Rattle.ct_vectors.specs.declared.limits.TheConstants.{MOVE_LIMIT}
use Rattle.ct_input.specs.declared.script.Script.{Script}
use Rattle.ct_input.specs.Accepted.{IsAcceptedScript}
use Rattle.ct_report.specs.declared.reports.Report.{Report}
use Rattle.ct_legal.specs.Legal.{IsLegalServed, IsLegalAnswered}
use Rattle.ct_form.specs.Forms.{Form}
use Rattle.ct_form.specs.EqualityForms.{IsForm}
use Rattle.ct_form_report.specs.FormCases.{form_case}
use Rattle.ct_run.specs.Forms.{form_file, session_file}
use Rattle.ct_run.specs.Laws.{IsReadAs}

-- an instance file stands for a form
abbrev pub FileIsForm : Type 0
FileIsForm = (bytes : List ℕ) (f : Form) → form_file bytes ≡ Ok f → IsForm f

-- a session file stands for a script for so many rows, with no more phases than a file may have
abbrev pub FileIsScript : Type 0
FileIsScript = (m : ℕ) (bytes : List ℕ) (script : Script) → session_file m bytes ≡ Ok script → IsAcceptedScript m script

-- no other report within the limits has the text of a legal report of such a script, whether asks may be answered or not yet
abbrev pub ServedFileIsRead : Type 0
ServedFileIsRead =
    (f : Form) → IsForm f → (limit : ℕ) → limit ≤ MOVE_LIMIT → (walks levels : Bool) (opened : ℕ) (script : Script) → IsAcceptedScript f.rows script →
    (report : Report) → IsLegalServed (form_case f limit walks levels opened) script report → IsReadAs report

-- or asks are taken as solves
abbrev pub AnsweredFileIsRead : Type 0
AnsweredFileIsRead =
    (f : Form) → IsForm f → (limit : ℕ) → limit ≤ MOVE_LIMIT → (walks levels : Bool) (opened : ℕ) (script : Script) → IsAcceptedScript f.rows script →
    (report : Report) → IsLegalAnswered (form_case f limit walks levels opened) script report → IsReadAs report
