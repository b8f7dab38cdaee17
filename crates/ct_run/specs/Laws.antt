-- What a run comes to, exactly. Each statement is the contract of a function in the module `laws`.
use Rattle.std.specs.Prelude.{ℕ, ◌≡◌, ◌≤◌, ◌<◌, ◌⊎◌, ◌↔◌, Bool, false, List, ◌++◌, None, IsOk, IsErr, length}
use Rattle.ct_input.specs.declared.limits.TheConstants.{LEDGER_FILE_LIMIT}
use Rattle.ct_instance.specs.Instance.{Problem, IsInstance}
use Rattle.ct_instance.specs.Versions.{IsFullGrade}
use Rattle.ct_instance.specs.Reach.{full_grade_up_to}
use Rattle.ct_vectors.specs.declared.limits.TheConstants.{MOVE_LIMIT}
use Rattle.ct_input.specs.declared.script.Script.{Script}
use Rattle.ct_input.specs.declared.script.Request.TheVariants.{Solve}
use Rattle.ct_input.specs.Script.{IsRequest, IsScript}
use Rattle.ct_input.specs.Cut.{IsCutBefore}
use Rattle.ct_json.specs.Values.{is_json}
use Rattle.ct_report.specs.declared.reports.Report.{Report}
use Rattle.ct_report.specs.ReportText.{report_text}
use Rattle.ct_report.specs.Limits.{IsAnswer, IsCount, IsReport}
use Rattle.ct_legal.specs.Cases.{Case, plain_case}
use Rattle.ct_form.specs.Forms.{Form}
use Rattle.ct_form.specs.EqualityForms.{IsForm, plain_form}
use Rattle.ct_form_report.specs.FormCases.{form_case}
use Rattle.ct_form_report.specs.Laws.{opened_case}
use Rattle.ct_version.specs.declared.answers.Answer.{Answer}
use Rattle.ct_version.specs.Answers.{outcome_seen}
use Rattle.ct_legal.specs.Legal.{IsLegalServed, IsLegalAnswered}
use Rattle.ct_legal.specs.Scripts.{HasNoAsks}
use Rattle.ct_ledger.specs.Parts.{LedgerParts, IsLedger}
use Rattle.ct_ledger.specs.LedgerText.{ledger_text, IsLedgerText}
use Rattle.ct_checker.specs.Checking.{verdict_of}
use Rattle.ct_words.specs.Table.{commands}
use Rattle.ct_words.specs.Said.{said_of}
use Rattle.ct_run.specs.declared.status.Status.{Status}
use Rattle.ct_run.specs.declared.status.Status.TheVariants.{BadLedger}
use Rattle.ct_run.specs.Words.{command_of}
use Rattle.ct_run.specs.Forms.{form_file, session_file}
use Rattle.ct_run.specs.Checked.{IsVerdictEnding, IsChecked}
use Rattle.ct_run.specs.Resumption.{IsResumption}
use Rattle.ct_run.specs.Outcome.{full, resumed, IsReportOf, IsServedReportOf, IsEnding}
use Rattle.ct_run.specs.Plan.{ledger_or_full}

-- the file of a ledger is checked by the verdict on that ledger
abbrev pub LedgerIsWeighed : Type 0
LedgerIsWeighed =
    (i : Problem) (bytes : List ℕ) (status : Status) (text : List ℕ) → IsChecked i bytes status text →
    length bytes ≤ LEDGER_FILE_LIMIT → (l : LedgerParts) → IsLedger l → bytes ≡ ledger_text l → IsVerdictEnding i l (verdict_of i l) status text

-- a file that is bad is over its limit, or the text of no ledger
abbrev pub BadIsNoLedger : Type 0
BadIsNoLedger =
    (i : Problem) (bytes text : List ℕ) → IsChecked i bytes BadLedger text → (LEDGER_FILE_LIMIT < length bytes) ⊎ (IsLedgerText bytes → ⊥)

-- and `serve` ends by the ledger with which it begins
abbrev pub LedgerIsResumed : Type 0
LedgerIsResumed =
    (c : Case) (script : Script) (bytes : List ℕ) (status : Status) (text : List ℕ) → IsEnding (resumed c script bytes) status text →
    length bytes ≤ LEDGER_FILE_LIMIT → (l : LedgerParts) → IsLedger l → bytes ≡ ledger_text l → IsResumption c script l status text

-- the outcome of a grade is full at f exactly where f is the full grade and at most that grade
abbrev pub FullIsFullGrade : Type 0
FullIsFullGrade = (i : Problem) (limit g f : ℕ) → (ledger_or_full i g (full_grade_up_to i limit g) ≡ full f) ↔ (IsFullGrade i limit f × (f ≤ g))

-- words are no command exactly where they are none by the table
abbrev pub NoCommandByTable : Type 0
NoCommandByTable = (words : List (List ℕ)) → (command_of words ≡ None) ↔ (said_of commands words ≡ None)

-- ---- files that were cut short

-- The front of an instance text of either form that ends before the last byte of its last token is refused, and isn't read as
-- JSON either.
abbrev pub CutInstanceTextHasFault : Type 0
CutInstanceTextHasFault = (front more : List ℕ) → is_json (front ++ more) ≡ false → IsOk (form_file (front ++ more)) → IsCutBefore front more → IsErr (form_file front)

-- and so is that of a session text
abbrev pub CutSessionTextHasFault : Type 0
CutSessionTextHasFault =
    (m : ℕ) (front more : List ℕ) → is_json (front ++ more) ≡ false → IsOk (session_file m (front ++ more)) → IsCutBefore front more → IsErr (session_file m front)

-- ---- serving

-- for a script without asks and the same options a report that is served, from whatever grade on, and one that is answered have the
-- same bytes
abbrev pub ServedAsAnswered : Type 0
ServedAsAnswered =
    (c : Case) (opened : ℕ) (script : Script) → HasNoAsks script → (text other : List ℕ) →
    IsServedReportOf (opened_case c opened) script text → IsReportOf c script other → text ≡ other

-- and so do two that are served, by whatever workers and from whatever grades on
abbrev pub ServedOneWay : Type 0
ServedOneWay =
    (c : Case) (opened others : ℕ) (script : Script) → HasNoAsks script → (text other : List ℕ) →
    IsServedReportOf (opened_case c opened) script text → IsServedReportOf (opened_case c others) script other → text ≡ other

-- ---- forms

-- a run of the form of an instance is a run of that instance
abbrev pub PlainFormRunsAsInstance : Type 0
PlainFormRunsAsInstance = (i : Problem) → IsInstance i → (limit : ℕ) (walks levels : Bool) → form_case (plain_form i) limit walks levels 0 ≡ plain_case i limit walks levels

-- ---- reports

-- it is within the limits of reading, and no other report within them has its text
pub record IsReadAs (report : Report) : Type 0 where
  pub within : IsReport report
  pub only : (other : Report) → IsReport other → report_text other ≡ report_text report → other ≡ report

-- the instance has a right-hand side within the limit for m numbers within it, and an answer that shows what is told of them
-- is within the limits of reading
pub record CanBeTold (m : ℕ) (c : Case) : Type 0 where
  pub instance : IsInstance c.instance
  pub limit : c.limit ≤ MOVE_LIMIT
  pub right : (b : List ℕ) → IsRequest m (Solve b) → IsRequest (c.instance).rows (Solve (c.right b))
  pub shown : (b : List ℕ) → IsRequest m (Solve b) → (answer : Answer) → outcome_seen answer ≡ c.shown b → IsAnswer answer

-- so it is of an instance
abbrev pub PlainCanBeTold : Type 0
PlainCanBeTold = (i : Problem) → IsInstance i → (limit : ℕ) → limit ≤ MOVE_LIMIT → (walks levels : Bool) → CanBeTold i.rows (plain_case i limit walks levels)

-- and of a form
abbrev pub FormCanBeTold : Type 0
FormCanBeTold = (f : Form) → IsForm f → (limit : ℕ) → limit ≤ MOVE_LIMIT → (walks levels : Bool) (opened : ℕ) → CanBeTold f.rows (form_case f limit walks levels opened)

-- then a report is read that is legal where asks may be answered or not yet
abbrev pub ServedIsRead : Type 0
ServedIsRead =
    (m : ℕ) (c : Case) → CanBeTold m c → (script : Script) → IsScript m script → IsCount (length script.phases) →
    (report : Report) → IsLegalServed c script report → IsReadAs report

-- and so is one that is legal where asks are taken as solves
abbrev pub AnsweredIsRead : Type 0
AnsweredIsRead =
    (m : ℕ) (c : Case) → CanBeTold m c → (script : Script) → IsScript m script → IsCount (length script.phases) →
    (report : Report) → IsLegalAnswered c script report → IsReadAs report
