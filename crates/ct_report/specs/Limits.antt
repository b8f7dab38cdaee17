-- The limits within which a report is read back.
use Rattle.std.specs.Prelude.{◌≡◌, ℕ, ◌*◌, ◌^◌, ◌<◌, ◌≤◌, List, length, Option, Some, None, unsigned_abs}
use Rattle.std.specs.Prelude.{All as Each}
use Rattle.ct_vectors.specs.declared.limits.TheConstants.{COLUMN_LIMIT, COST_ROW_LIMIT, COST_LIMIT, GRADE_LIMIT, JOB_GRADE_LIMIT}
use Rattle.ct_lines.specs.Texts.{IsStep}
use Rattle.ct_version.specs.declared.answers.Answer.{Answer}
use Rattle.ct_version.specs.declared.answers.Answer.TheVariants.{Optimum, Infeasible}
use Rattle.ct_version.specs.declared.finished.Finished.{Finished}
use Rattle.ct_version.specs.declared.finished.Finished.TheVariants.{Upto, All}
use Rattle.ct_session.specs.declared.lines.Line.{Line}
use Rattle.ct_session.specs.declared.lines.Line.TheVariants.{Answered, NotYet, Full}
use Rattle.ct_report.specs.declared.reports.PhaseReport.{PhaseReport}
use Rattle.ct_report.specs.declared.reports.Report.{Report}
use Rattle.ct_report.specs.ReportText.{report_text}

abbrev pub IsAnswer : Answer → Type 0
IsAnswer (Optimum point costs) =
    (1 ≤ length costs) × (length costs ≤ COST_ROW_LIMIT) × Each (λ n. unsigned_abs n ≤ COST_LIMIT * JOB_GRADE_LIMIT) costs × (1 ≤ length point) × (length point ≤ COLUMN_LIMIT) × Each (λ n. n ≤ GRADE_LIMIT) point
IsAnswer (Infeasible short) = (1 ≤ short) × (short ≤ GRADE_LIMIT)

abbrev pub IsWalk : Option (List (ℕ × ℕ)) → Type 0
IsWalk None = Unit {0}
IsWalk (Some steps) = Each IsStep steps

abbrev pub IsLine : Line → Type 0
IsLine (Answered answer walk) = IsAnswer answer × IsWalk walk
IsLine (NotYet finished) = finished ≤ JOB_GRADE_LIMIT
IsLine (Full grade) = (1 ≤ grade) × (grade ≤ GRADE_LIMIT)

abbrev pub IsLevel : Option Finished → Type 0
IsLevel None = Unit {0}
IsLevel (Some All) = Unit {0}
IsLevel (Some (Upto level)) = level ≤ JOB_GRADE_LIMIT

-- no list in memory is as long as this
abbrev pub IsCount : ℕ → Type 0
IsCount count = count < 2 ^ 62

pub record IsPhase (phase : PhaseReport) : Type 0 where
  pub count : IsCount (length phase.sessions)
  pub sessions : Each (Each IsLine) phase.sessions
  pub level : IsLevel phase.level

pub record IsReport (report : Report) : Type 0 where
  pub count : IsCount (length report.phases)
  pub phases : Each IsPhase report.phases

-- the bytes are the text of some report within the limits
abbrev pub IsReportText : List ℕ → Type 0
IsReportText text = (report : Report) × IsReport report × (text ≡ report_text report)
