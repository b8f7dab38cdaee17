-- Which reports are legal for a script.
use Rattle.std.specs.Prelude.{ℕ, ◌≤◌, ◌<◌, ◌≡◌, max, Bool, true, false, List, [], ◌∷◌, Option, Some, None}
use Rattle.ct_instance.specs.Versions.{Level, upto, everything}
use Rattle.ct_instance.specs.Reach.{full_grade_up_to}
use Rattle.ct_levels.specs.Levels.{IsLevelWithin}
use Rattle.ct_version.specs.declared.finished.Finished.{Finished}
use Rattle.ct_version.specs.Editions.{level_seen}
use Rattle.ct_session.specs.declared.lines.Line.{Line}
use Rattle.ct_session.specs.declared.lines.Line.TheVariants.{Answered, NotYet, Full}
use Rattle.ct_session.specs.Lines.{IsAnsweredLine, IsSolveLine}
use Rattle.ct_input.specs.declared.script.Request.{Request}
use Rattle.ct_input.specs.declared.script.Request.TheVariants.{Ask, Solve}
use Rattle.ct_input.specs.declared.script.Phase.{Phase}
use Rattle.ct_input.specs.declared.script.Script.{Script}
use Rattle.ct_report.specs.declared.reports.PhaseReport.{PhaseReport}
use Rattle.ct_report.specs.declared.reports.Report.{Report}
use Rattle.ct_legal.specs.Cases.{Case, sum_of, case_reach}
use Rattle.ct_legal.specs.Scripts.{with_solves, grade_after}

-- ---- the line of a request

-- the level is at most f
abbrev pub IsAtMost : Level → ℕ → Type 0
IsAtMost (upto l) f = l ≤ f
IsAtMost everything f = ⊥

-- f is the level of a version within the limit, below the sum of the request, at least what the reach of the floor is, and at
-- least what the session has shown
pub record IsShownLevel (c : Case) (floor low : ℕ) (b : List ℕ) (f : ℕ) : Type 0 where
  pub level : IsLevelWithin c.instance c.limit (upto f)
  pub below : f < sum_of c b
  pub reached : IsAtMost (case_reach c floor) f
  pub rises : low ≤ f

abbrev pub IsSolved : Case → List ℕ → Line → Type 0
IsSolved c b line = IsSolveLine c.instance c.limit c.walks (c.shown b) (c.right b) line

-- answered, but only where the full grade isn't at most the sum, or not yet
abbrev pub IsAsked : Case → ℕ → ℕ → List ℕ → Line → Type 0
IsAsked c floor low b (Answered answer walk) =
    (full_grade_up_to c.instance c.limit (sum_of c b) ≡ None) × IsAnsweredLine c.instance c.walks (c.shown b) (c.right b) (Answered answer walk)
IsAsked c floor low b (NotYet f) = IsShownLevel c floor low b f
IsAsked c floor low b (Full grade) = ⊥

-- ---- the lines of a session

-- the least level that a session may still show: the greatest of those that it has shown and the sums that it has answered
abbrev pub low_after : Case → ℕ → List ℕ → Line → ℕ
low_after c low b (Answered answer walk) = max low (sum_of c b)
low_after c low b (NotYet f) = max low f
low_after c low b (Full grade) = low

-- one line for each request in order, from a floor and the least level that may be shown; a solve raises the floor to its sum
abbrev pub AreLegalLines : Case → ℕ → ℕ → List Request → List Line → Type 0
AreLegalLines c floor low [] [] = Unit {0}
AreLegalLines c floor low [] (line ∷ lines) = ⊥
AreLegalLines c floor low (request ∷ requests) [] = ⊥
AreLegalLines c floor low (Solve b ∷ requests) (line ∷ lines) =
    IsSolved c b line × AreLegalLines c (max floor (sum_of c b)) (low_after c low b line) requests lines
AreLegalLines c floor low (Ask b ∷ requests) (line ∷ lines) =
    IsAsked c floor low b line × AreLegalLines c floor (low_after c low b line) requests lines

-- ---- phases

abbrev pub AreLegalSessions : Case → ℕ → List (List Request) → List (List Line) → Type 0
AreLegalSessions c floor [] [] = Unit {0}
AreLegalSessions c floor [] (lines ∷ told) = ⊥
AreLegalSessions c floor (requests ∷ sessions) [] = ⊥
AreLegalSessions c floor (requests ∷ sessions) (lines ∷ told) = AreLegalLines c floor 0 requests lines × AreLegalSessions c floor sessions told

-- a level is shown exactly where levels are asked for, and then it is this one
abbrev pub IsLevelShown : Bool → Level → Option Finished → Type 0
IsLevelShown true level (Some shown) = level_seen shown ≡ level
IsLevelShown true level None = ⊥
IsLevelShown false level (Some shown) = ⊥
IsLevelShown false level None = Unit {0}

-- in each phase the floor of its sessions is the grade that was worked for in the phases before, or the one at which the run
-- began, and its level is the reach of the grade that is worked for up to its end
abbrev pub AreLegalPhases : Case → ℕ → List Phase → List PhaseReport → Type 0
AreLegalPhases c grade [] [] = Unit {0}
AreLegalPhases c grade [] (told ∷ others) = ⊥
AreLegalPhases c grade (phase ∷ phases) [] = ⊥
AreLegalPhases c grade (phase ∷ phases) (told ∷ others) =
    AreLegalSessions c (max c.opened grade) phase.sessions told.sessions ×
    IsLevelShown c.levels (case_reach c (grade_after c grade phase)) told.level ×
    AreLegalPhases c (grade_after c grade phase) phases others

-- ---- reports

-- the report is legal where asks may be answered or not yet
abbrev pub IsLegalServed : Case → Script → Report → Type 0
IsLegalServed c script report = AreLegalPhases c 0 script.phases report.phases

-- and where each ask is taken as a solve
abbrev pub IsLegalAnswered : Case → Script → Report → Type 0
IsLegalAnswered c script report = IsLegalServed c (with_solves script) report
