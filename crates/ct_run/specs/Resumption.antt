-- How `serve` ends that opens with the moves of a ledger.
use Rattle.std.specs.Prelude.{ℕ, ◌≡◌, ◌++◌, List, Some, codes, decimal}
use Rattle.ct_instance.specs.Reach.{full_grade_up_to}
use Rattle.ct_input.specs.declared.script.Script.{Script}
use Rattle.ct_report.specs.declared.reports.Report.{Report}
use Rattle.ct_report.specs.ReportText.{report_text}
use Rattle.ct_ledger.specs.Parts.{LedgerParts}
use Rattle.ct_checker.specs.declared.verdicts.Reason.{Reason}
use Rattle.ct_checker.specs.Accepted.{moves_of, IsAccepted}
use Rattle.ct_checker.specs.Refusals.{first_refusal_of}
use Rattle.ct_resume.specs.Reduced.{IsReduced, IsFirstUnreduced}
use Rattle.ct_resume.specs.Resuming.{grade_before}
use Rattle.ct_legal.specs.Cases.{Case}
use Rattle.ct_legal.specs.Legal.{IsLegalServed}
use Rattle.ct_form_report.specs.Laws.{opened_case}
use Rattle.ct_run.specs.declared.status.Status.{Status}
use Rattle.ct_run.specs.declared.status.Status.TheVariants.{Done, LedgerRefused, NotReduced}
use Rattle.ct_run.specs.Texts.{newline}
use Rattle.ct_run.specs.Checked.{refused_text}

-- as 'not reduced: move 2'
abbrev pub not_reduced_text : ℕ → List ℕ
not_reduced_text number = codes "not reduced: move " ++ decimal number ++ newline

-- the grade of the ledger, or the one before the full grade where that is no greater
abbrev pub grade_opened : Case → LedgerParts → ℕ
grade_opened c l = grade_before l.grade (full_grade_up_to c.instance c.limit l.grade)

-- The ledger has this first refused line; or it is accepted, and this move is the first at which it isn't reduced; or it is
-- accepted and reduced, and the text is that of a report which is legal where the run opens at its grade.
pub data IsResumption (c : Case) (script : Script) (l : LedgerParts) (status : Status) (text : List ℕ) : Type 0 where
  refused : (line : ℕ) (reason : Reason) → first_refusal_of c.instance l ≡ Some (line, reason) → status ≡ LedgerRefused → text ≡ refused_text line reason → IsResumption c script l status text
  unreduced : (number : ℕ) → IsAccepted c.instance l → IsFirstUnreduced c.instance (moves_of l) number → status ≡ NotReduced → text ≡ not_reduced_text number → IsResumption c script l status text
  opens : IsAccepted c.instance l → IsReduced c.instance (moves_of l) → status ≡ Done → (report : Report) → IsLegalServed (opened_case c (grade_opened c l)) script report → text ≡ report_text report → IsResumption c script l status text
