-- What is told when each request is taken as a solve, without the floors that asks would need.
use Rattle.std.specs.Prelude.{ℕ, Bool, cond, List, [], ◌∷◌, map}
use Rattle.std.specs.List.{flat_map}
use Rattle.ct_vectors.specs.Vectors.{total}
use Rattle.ct_instance.specs.Answer.{answer_of}
use Rattle.ct_version.specs.Desks.{Place}
use Rattle.ct_session.specs.declared.lines.Line.{Line}
use Rattle.ct_session.specs.Lines.{IsSolveLine}
use Rattle.ct_input.specs.declared.script.Request.{Request}
use Rattle.ct_input.specs.declared.script.Request.TheVariants.{Ask, Solve}
use Rattle.ct_input.specs.declared.script.Phase.{Phase}
use Rattle.ct_input.specs.Script.{right_of}
use Rattle.ct_report.specs.declared.reports.PhaseReport.{PhaseReport}
use Rattle.ct_legal.specs.Cases.{Case, plain_case, case_reach}
use Rattle.ct_legal.specs.Legal.{IsLevelShown}
use Rattle.ct_answer.specs.declared.options.Options.{Options}

-- the case of a place
abbrev pub case_at : Place → Options → Case
case_at p o = plain_case p.instance p.limit o.walks o.levels

-- ---- lines

-- as many of one as of the other, each in this relation to its partner
abbrev pub AreEach : {X Y : Type 0} → (X → Y → Type 0) → List X → List Y → Type 0
AreEach R [] [] = Unit {0}
AreEach R [] (y ∷ ys) = ⊥
AreEach R (x ∷ xs) [] = ⊥
AreEach R (x ∷ xs) (y ∷ ys) = R x y × AreEach R xs ys

abbrev pub IsTold : Place → Bool → Request → Line → Type 0
IsTold p walks request line = IsSolveLine p.instance p.limit walks (answer_of p.instance (right_of request)) (right_of request) line

abbrev pub AreToldLines : Place → Bool → List Request → List Line → Type 0
AreToldLines p walks requests lines = AreEach (IsTold p walks) requests lines

abbrev pub AreToldSessions : Place → Bool → List (List Request) → List (List Line) → Type 0
AreToldSessions p walks sessions told = AreEach (AreToldLines p walks) sessions told

-- ---- grades

-- the grade that a request works for: the sum of a solve, and of an ask where asks are taken as solves
abbrev pub worked_for : Bool → Request → ℕ
worked_for asks (Solve b) = total b
worked_for asks (Ask b) = cond asks (total b) 0

abbrev pub all_worked_for : Bool → List (List Request) → List ℕ
all_worked_for asks sessions = flat_map (λ requests. map (worked_for asks) requests) sessions

-- ---- phases

-- a phase that works for this grade up to its end
pub record IsToldPhase (p : Place) (o : Options) (grade : ℕ) (phase : Phase) (told : PhaseReport) : Type 0 where
  pub sessions : AreToldSessions p o.walks phase.sessions told.sessions
  pub level : IsLevelShown o.levels (case_reach (case_at p o) grade) told.level
