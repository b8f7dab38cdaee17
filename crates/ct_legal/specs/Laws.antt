-- What holds of legal reports. Each statement is the contract of a function in the module `laws`.
use Rattle.std.specs.Prelude.{ℕ, ◌≡◌, ◌↔◌, max, List}
use Rattle.ct_instance.specs.Instance.{IsInstance}
use Rattle.ct_instance.specs.Versions.{Covers}
use Rattle.ct_session.specs.declared.lines.Line.{Line}
use Rattle.ct_session.specs.Lines.{IsAnsweredLine}
use Rattle.ct_input.specs.declared.script.Script.{Script}
use Rattle.ct_report.specs.declared.reports.Report.{Report}
use Rattle.ct_report.specs.ReportText.{report_text}
use Rattle.ct_legal.specs.Cases.{Case, sum_of, case_reach}
use Rattle.ct_legal.specs.Scripts.{HasNoAsks}
use Rattle.ct_legal.specs.Legal.{IsAtMost, IsAsked, IsLegalServed, IsLegalAnswered}

-- with asks as solves two legal reports are one
abbrev pub OneReport : Type 0
OneReport = (c : Case) (script : Script) (r q : Report) → IsLegalAnswered c script r → IsLegalAnswered c script q → r ≡ q

-- so too for a script without asks
abbrev pub OneWithoutAsks : Type 0
OneWithoutAsks = (c : Case) (script : Script) → HasNoAsks script → (r q : Report) → IsLegalServed c script r → IsLegalServed c script q → r ≡ q

-- whose text is the same either way
abbrev pub SameWithoutAsks : Type 0
SameWithoutAsks =
    (c : Case) (script : Script) → HasNoAsks script → (r q : Report) → IsLegalServed c script r → IsLegalAnswered c script q → report_text r ≡ report_text q

-- the floor of the greater of two grades is the greater of their floors
abbrev pub FloorIsGreatest : Type 0
FloorIsGreatest =
    (c : Case) → IsInstance c.instance → (g h f : ℕ) → IsAtMost (case_reach c (max g h)) f ↔ (IsAtMost (case_reach c g) f × IsAtMost (case_reach c h) f)

-- an ask whose sum the floor covers is answered
abbrev pub CoveredIsAnswered : Type 0
CoveredIsAnswered =
    (c : Case) (floor low : ℕ) (b : List ℕ) (line : Line) → Covers (case_reach c floor) (sum_of c b) → IsAsked c floor low b line →
    IsAnsweredLine c.instance c.walks (c.shown b) (c.right b) line
