-- What a run by a box tells: of each request the answer, with its walk by the box of the greatest right-hand sides.
use Rattle.std.specs.Prelude.{ℕ, ◌≡◌, nat_le, Bool, true, false, cond, Option, Some, None, List}
use Rattle.std.specs.List.{fold}
use Rattle.ct_vectors.specs.Vectors.{total, lcm, zeros}
use Rattle.ct_instance.specs.Instance.{Problem, start_of}
use Rattle.ct_instance.specs.Fiber.{least_of}
use Rattle.ct_instance.specs.Walk.{IsWalk}
use Rattle.ct_input.specs.declared.script.Request.{Request}
use Rattle.ct_input.specs.declared.script.Phase.{Phase}
use Rattle.ct_input.specs.declared.script.Script.{Script}
use Rattle.ct_input.specs.Script.{right_of}
use Rattle.ct_version.specs.Answers.{outcome_seen}
use Rattle.ct_session.specs.declared.lines.Line.{Line}
use Rattle.ct_session.specs.declared.lines.Line.TheVariants.{Answered, NotYet, Full}
use Rattle.ct_report.specs.declared.reports.PhaseReport.{PhaseReport}
use Rattle.ct_report.specs.declared.reports.Report.{Report}
use Rattle.ct_form.specs.Forms.{Form}
use Rattle.ct_form.specs.EqualityForms.{equal_of, right_for, form_answer_of}
use Rattle.ct_answer.specs.Told.{AreEach}
use Rattle.ct_box.specs.Box.{box_list, box_full_grade}

-- ---- the bound

-- the greater number in each row
abbrev pub top_with_request : Form → List ℕ → Request → List ℕ
top_with_request f top request = lcm top (right_for f (right_of request))

abbrev pub top_with_session : Form → List ℕ → List Request → List ℕ
top_with_session f top requests = fold (top_with_request f) top requests

abbrev pub top_with_phase : Form → List ℕ → Phase → List ℕ
top_with_phase f top phase = fold (top_with_session f) top phase.sessions

-- the greatest number that stands in each row of the right-hand sides of the equality form, of asks and of solves, from zeros
unfoldable pub box_top : Form → Script → List ℕ
box_top f script = fold (top_with_phase f) (zeros (equal_of f).rows) script.phases

-- ---- lines

-- a walk is shown exactly where walks are asked for: the steps from (0, b) to the least point by the whole box
abbrev pub IsBoxWalkShown : Problem → List ℕ → Bool → List ℕ → Option (List (ℕ × ℕ)) → Type 0
IsBoxWalkShown i top true b (Some steps) = IsWalk (box_list i top) (start_of i b) steps (least_of i b)
IsBoxWalkShown i top true b None = ⊥
IsBoxWalkShown i top false b (Some steps) = ⊥
IsBoxWalkShown i top false b None = Unit {0}

-- the answer of the form to b
abbrev pub IsBoxAnswer : Form → List ℕ → Bool → List ℕ → Line → Type 0
IsBoxAnswer f top walks b (Answered answer walk) = (outcome_seen answer ≡ form_answer_of f b) × IsBoxWalkShown (equal_of f) top walks (right_for f b) walk
IsBoxAnswer f top walks b (NotYet finished) = ⊥
IsBoxAnswer f top walks b (Full grade) = ⊥

-- the grade, where there is one and it is at most g
abbrev pub if_within : ℕ → Option ℕ → Option ℕ
if_within g None = None
if_within g (Some f) = cond (nat_le f g) (Some f) None

abbrev pub IsFullOrBoxAnswer : Option ℕ → Form → List ℕ → Bool → List ℕ → Line → Type 0
IsFullOrBoxAnswer (Some g) f top walks b line = line ≡ Full g
IsFullOrBoxAnswer None f top walks b line = IsBoxAnswer f top walks b line

-- full exactly where the box full grade is at most the sum of the right-hand side, and else the answer
abbrev pub IsBoxLine : Form → List ℕ → ℕ → Bool → List ℕ → Line → Type 0
IsBoxLine f top limit walks b line = IsFullOrBoxAnswer (if_within (total (right_for f b)) (box_full_grade (equal_of f) top limit)) f top walks b line

-- ---- reports

abbrev pub IsBoxRequest : Form → List ℕ → ℕ → Bool → Request → Line → Type 0
IsBoxRequest f top limit walks request line = IsBoxLine f top limit walks (right_of request) line

abbrev pub AreBoxLines : Form → List ℕ → ℕ → Bool → List Request → List Line → Type 0
AreBoxLines f top limit walks requests lines = AreEach (IsBoxRequest f top limit walks) requests lines

abbrev pub AreBoxSessions : Form → List ℕ → ℕ → Bool → List (List Request) → List (List Line) → Type 0
AreBoxSessions f top limit walks sessions told = AreEach (AreBoxLines f top limit walks) sessions told

-- asks count as solves, and no level is shown
pub record IsBoxPhase (f : Form) (top : List ℕ) (limit : ℕ) (walks : Bool) (phase : Phase) (told : PhaseReport) : Type 0 where
  pub sessions : AreBoxSessions f top limit walks phase.sessions told.sessions
  pub level : told.level ≡ None

abbrev pub AreBoxPhases : Form → List ℕ → ℕ → Bool → List Phase → List PhaseReport → Type 0
AreBoxPhases f top limit walks phases told = AreEach (IsBoxPhase f top limit walks) phases told

abbrev pub IsBoxReport : Form → ℕ → Bool → Script → Report → Type 0
IsBoxReport f limit walks script report = AreBoxPhases f (box_top f script) limit walks script.phases report.phases
