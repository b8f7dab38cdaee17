-- What a run comes to, the status and the texts with which it ends, and what may come in its place.
use Rattle.std.specs.Prelude.{◌≡◌, ℕ, ◌++◌, ◌⊎◌, Bool, true, false, List, Option, codes, decimal}
use Rattle.std.specs.Io.KnownBytes.{Appends}
use Rattle.ct_outside.specs.Sink.{AppendsFront}
use Rattle.ct_instance.specs.Instance.{Problem}
use Rattle.ct_input.specs.declared.fault.Fault.{Fault}
use Rattle.ct_input.specs.declared.script.Script.{Script}
use Rattle.ct_input.specs.FaultText.{fault_text}
use Rattle.ct_run.specs.declared.status.Status.{Status}
use Rattle.ct_run.specs.declared.status.Status.TheVariants.{Done, Usage, BadInstance, BadSessions, ReadFault, WriteFault, Memory, Full, TooMany}
use Rattle.ct_report.specs.declared.reports.Report.{Report}
use Rattle.ct_report.specs.ReportText.{report_text}
use Rattle.ct_legal.specs.Cases.{Case}
use Rattle.ct_legal.specs.Legal.{IsLegalServed, IsLegalAnswered}
use Rattle.ct_best_report.specs.declared.reports.BestAnswer.{BestAnswer}
use Rattle.ct_best_report.specs.BestReport.{IsBestReport}
use Rattle.ct_best_report.specs.BestText.{best_text}
use Rattle.ct_form.specs.Forms.{Form}
use Rattle.ct_box_report.specs.BoxReport.{IsBoxReport}
use Rattle.ct_run.specs.Texts.{newline}
use Rattle.ct_run.specs.Certificate.{IsCertificate}
use Rattle.ct_run.specs.Checked.{IsLedgerEnding, IsChecked}
use Rattle.ct_run.specs.Resumption.{IsResumption}
use Rattle.ct_run.specs.Summarised.{IsSummaryOf}

-- what a run comes to before it writes
pub data RunOutcome : Type 0 where
  usage : RunOutcome
  bad_instance : Fault → RunOutcome
  bad_sessions : Fault → RunOutcome
  answered : Case → Script → RunOutcome
  listed : Case → ℕ → ℕ → Script → RunOutcome
  too_many : ℕ → RunOutcome
  boxed : Form → ℕ → Bool → Script → RunOutcome
  certified : Problem → ℕ → RunOutcome
  full : ℕ → RunOutcome
  checked : Problem → List ℕ → RunOutcome
  made : ℕ → RunOutcome
  served : Case → Script → RunOutcome
  resumed : Case → Script → List ℕ → RunOutcome

-- a text of a report that is legal where each ask is taken as a solve
abbrev pub IsReportOf : Case → Script → List ℕ → Type 0
IsReportOf c script text = (report : Report) × (IsLegalAnswered c script report × (text ≡ report_text report))

-- a text of a report that is legal where asks may be answered or not yet
abbrev pub IsServedReportOf : Case → Script → List ℕ → Type 0
IsServedReportOf c script text = (report : Report) × (IsLegalServed c script report × (text ≡ report_text report))

-- a text of what is told of the least solutions of each request, of each its first n numbers
abbrev pub IsBestOf : Case → ℕ → ℕ → Script → List ℕ → Type 0
IsBestOf c n count script text = (answers : List BestAnswer) × (IsBestReport c n count script answers × (text ≡ best_text answers))

-- a text of what is told of a form by a box, with at most so many moves
abbrev pub IsBoxOf : Form → ℕ → Bool → Script → List ℕ → Type 0
IsBoxOf f limit walks script text = (report : Report) × (IsBoxReport f limit walks script report × (text ≡ report_text report))

-- the status and the text with which the outcome ends
abbrev pub IsEnding : RunOutcome → Status → List ℕ → Type 0
IsEnding usage status text = (status ≡ Usage) × (text ≡ codes "usage: ct COMMAND ARGUMENTS" ++ newline)
IsEnding (bad_instance fault) status text = (status ≡ BadInstance) × (text ≡ codes "bad instance: " ++ fault_text fault ++ newline)
IsEnding (bad_sessions fault) status text = (status ≡ BadSessions) × (text ≡ codes "bad sessions: " ++ fault_text fault ++ newline)
IsEnding (answered c script) status text = (status ≡ Done) × IsReportOf c script text
IsEnding (listed c n count script) status text = (status ≡ Done) × IsBestOf c n count script text
IsEnding (too_many requests) status text = (status ≡ TooMany) × (text ≡ codes "too many: " ++ decimal requests ++ codes " requests" ++ newline)
IsEnding (boxed f limit walks script) status text = (status ≡ Done) × IsBoxOf f limit walks script text
IsEnding (certified i grade) status text = (status ≡ Done) × IsCertificate i grade text
IsEnding (full grade) status text = (status ≡ Full) × (text ≡ codes "full " ++ decimal grade ++ newline)
IsEnding (checked i bytes) status text = IsChecked i bytes status text
IsEnding (made number) status text = (status ≡ Done) × IsSummaryOf number text
IsEnding (served c script) status text = (status ≡ Done) × IsServedReportOf c script text
IsEnding (resumed c script bytes) status text = IsLedgerEnding bytes status text (λ l. IsResumption c script l status text)

abbrev pub HasStatus : RunOutcome → Status → Type 0
HasStatus outcome status = (text : List ℕ) × IsEnding outcome status text

-- the status is the outcome's, and the whole of a text of it was appended
abbrev pub Wrote : Status → Option (List ℕ) → Option (List ℕ) → RunOutcome → Type 0
Wrote status old new outcome = (text : List ℕ) × (IsEnding outcome status text × Appends old new text)

-- a front of a text of the outcome was appended
abbrev pub WroteFront : Option (List ℕ) → Option (List ℕ) → RunOutcome → Type 0
WroteFront old new outcome = (status : Status) × ((text : List ℕ) × (IsEnding outcome status text × AppendsFront old new text))

-- ---- what may come in the place of the outcome

-- a status that is no outcome's: reading or writing failed, or memory ran out
abbrev pub is_stop : Status → Bool
is_stop ReadFault = true
is_stop WriteFault = true
is_stop Memory = true
is_stop status = false

-- the status is the outcome's, unless one of these came in its place
abbrev pub IsUnlessStopped : Status → RunOutcome → Type 0
IsUnlessStopped status outcome = is_stop status ≡ false → HasStatus outcome status

-- the status is the outcome's, or memory ran out
abbrev pub IsUnlessMemory : Status → RunOutcome → Type 0
IsUnlessMemory status outcome = HasStatus outcome status ⊎ (status ≡ Memory)
