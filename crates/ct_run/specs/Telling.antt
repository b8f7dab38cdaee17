-- What is told of a report of an equality form.
use Rattle.std.specs.Prelude.{ℕ, ◌≡◌, Bool, List}
use Rattle.ct_input.specs.declared.script.Script.{Script}
use Rattle.ct_report.specs.declared.reports.Report.{Report}
use Rattle.ct_report.specs.ReportText.{report_text}
use Rattle.ct_legal.specs.Cases.{plain_case}
use Rattle.ct_legal.specs.Legal.{IsLegalServed}
use Rattle.ct_form.specs.Forms.{Form}
use Rattle.ct_form.specs.EqualityForms.{equal_of}
use Rattle.ct_form_report.specs.FormCases.{form_case, widened}
use Rattle.ct_form_report.specs.Laws.{opened_case}

-- it is legal for the form where the report is legal for the equality form and the widened script
abbrev pub IsToldOf : Form → Report → Report → Type 0
IsToldOf f report told =
    (limit : ℕ) (walks levels : Bool) (opened : ℕ) (script : Script) →
    IsLegalServed (opened_case (plain_case (equal_of f) limit walks levels) opened) (widened f script) report → IsLegalServed (form_case f limit walks levels opened) script told

-- the text of a report that is told of it
abbrev pub HasToldText : Form → Report → List ℕ → Type 0
HasToldText f report text = (told : Report) × IsToldOf f report told × (text ≡ report_text told)
