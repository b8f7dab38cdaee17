-- What holds of runs of forms. Each statement is the contract of a function in the module `laws`.
use Rattle.std.specs.Prelude.{ℕ, ◌≡◌, Bool, length}
use Rattle.ct_input.specs.declared.script.Script.{Script}
use Rattle.ct_input.specs.Script.{IsScript}
use Rattle.ct_report.specs.declared.reports.Report.{Report}
use Rattle.ct_legal.specs.Cases.{Case, plain_case}
use Rattle.ct_legal.specs.Scripts.{with_solves}
use Rattle.ct_legal.specs.Legal.{IsLegalServed, IsLegalAnswered}
use Rattle.ct_form.specs.Forms.{Form}
use Rattle.ct_form.specs.EqualityForms.{equal_of, IsForm}
use Rattle.ct_form_report.specs.FormCases.{form_case, widened, trimmed}
use Rattle.ct_form_report.specs.FormHeadline.{AreTrueOfForm}

-- a run of an instance that begins with its moves up to some grade
abbrev pub opened_case : Case → ℕ → Case
opened_case case opened = record case { opened = opened }

-- a legal report of the equality form for the widened script, cut to the form's columns, is legal for the form
abbrev pub TrimmedIsLegal : Type 0
TrimmedIsLegal =
    (f : Form) (limit : ℕ) (walks levels : Bool) (opened : ℕ) (script : Script) (report : Report) →
    IsLegalServed (opened_case (plain_case (equal_of f) limit walks levels) opened) (widened f script) report →
    IsLegalServed (form_case f limit walks levels opened) script (trimmed (length f.columns) report)

-- and so where each ask is taken as a solve
abbrev pub TrimmedIsLegalAnswered : Type 0
TrimmedIsLegalAnswered =
    (f : Form) (limit : ℕ) (walks levels : Bool) (opened : ℕ) (script : Script) (report : Report) →
    IsLegalAnswered (opened_case (plain_case (equal_of f) limit walks levels) opened) (widened f script) report →
    IsLegalAnswered (form_case f limit walks levels opened) script (trimmed (length f.columns) report)

-- widening and taking asks as solves go in either order
abbrev pub WidenedWithSolves : Type 0
WidenedWithSolves = (f : Form) (script : Script) → with_solves (widened f script) ≡ widened f (with_solves script)

-- and what is widened is a script of the equality form
abbrev pub WidenedIsScript : Type 0
WidenedIsScript = (f : Form) → IsForm f → (script : Script) → IsScript f.rows script → IsScript (equal_of f).rows (widened f script)

-- each line of a legal report of a form is true where asks may be answered or not yet
abbrev pub ServedOfFormIsTrue : Type 0
ServedOfFormIsTrue =
    (f : Form) → IsForm f → (limit : ℕ) (walks levels : Bool) (opened : ℕ) (script : Script) → IsScript f.rows script → (report : Report) →
    IsLegalServed (form_case f limit walks levels opened) script report → AreTrueOfForm f limit walks levels script.phases report.phases

-- and where each ask is taken as a solve
abbrev pub AnsweredOfFormIsTrue : Type 0
AnsweredOfFormIsTrue =
    (f : Form) → IsForm f → (limit : ℕ) (walks levels : Bool) (opened : ℕ) (script : Script) → IsScript f.rows script → (report : Report) →
    IsLegalAnswered (form_case f limit walks levels opened) script report → AreTrueOfForm f limit walks levels (with_solves script).phases report.phases
