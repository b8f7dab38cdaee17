-- Which lines are legal doesn't depend on the grade at which a run began.
use Rattle.std.proofs.Common.{ℕ, ◌≡◌, max, List, [], ◌∷◌, map, refl, subst}
use Rattle.std.specs.List.{flat_map}
use Rattle.ct_input.specs.declared.script.Request.{Request}
use Rattle.ct_input.specs.declared.script.Request.TheVariants.{Ask, Solve}
use Rattle.ct_input.specs.declared.script.Phase.{Phase}
use Rattle.ct_input.specs.declared.script.Script.{Script}
use Rattle.ct_session.specs.declared.lines.Line.{Line}
use Rattle.ct_session.specs.declared.lines.Line.TheVariants.{Answered, NotYet, Full}
use Rattle.ct_legal.specs.Cases.{Case, sum_of, case_reach}
use Rattle.ct_report.specs.declared.reports.PhaseReport.{PhaseReport}
use Rattle.ct_report.specs.declared.reports.Report.{Report}
use Rattle.ct_legal.specs.Scripts.{as_solve, phase_with_solves, solved_sum, greatest, grade_after}
use Rattle.ct_legal.specs.Legal.{IsAsked, low_after, AreLegalLines, AreLegalSessions, IsLevelShown, AreLegalPhases, IsLegalAnswered}

abbrev from : Case → ℕ → Case
from c opened = record c { opened = opened }

asked_from : (c : Case) (opened floor low : ℕ) (b : List ℕ) (line : Line) → IsAsked c floor low b line → IsAsked (from c opened) floor low b line
asked_from c opened floor low b (Answered answer walk) asked = asked
asked_from c opened floor low b (NotYet f) asked = record { level = asked.level; below = asked.below; reached = asked.reached; rises = asked.rises }
asked_from c opened floor low b (Full grade) asked = absurd asked

low_from : (c : Case) (opened low : ℕ) (b : List ℕ) (line : Line) → low_after c low b line ≡ low_after (from c opened) low b line
low_from c opened low b (Answered answer walk) = refl
low_from c opened low b (NotYet f) = refl
low_from c opened low b (Full grade) = refl

pub lines_from : (c : Case) (opened floor low : ℕ) (requests : List Request) (lines : List Line) → AreLegalLines c floor low requests lines →
    AreLegalLines (from c opened) floor low requests lines
lines_from c opened floor low [] [] legal = tt
lines_from c opened floor low [] (line ∷ lines) legal = absurd legal
lines_from c opened floor low (request ∷ requests) [] legal = absurd legal
lines_from c opened floor low (Ask b ∷ requests) (line ∷ lines) legal = (
  asked_from c opened floor low b line legal.0,
  subst (λ (l : ℕ). AreLegalLines (from c opened) floor l requests lines) (low_from c opened low b line) (lines_from c opened floor (low_after c low b line) requests lines legal.1),
)
lines_from c opened floor low (Solve b ∷ requests) (line ∷ lines) legal = (
  legal.0,
  subst (λ (l : ℕ). AreLegalLines (from c opened) (max floor (sum_of c b)) l requests lines) (low_from c opened low b line)
      (lines_from c opened (max floor (sum_of c b)) (low_after c low b line) requests lines legal.1),
)

-- ---- where each ask is taken as a solve, reports don't either

solves_from : (c : Case) (opened floor low other less : ℕ) (requests : List Request) (lines : List Line) → AreLegalLines c floor low (map as_solve requests) lines →
    AreLegalLines (from c opened) other less (map as_solve requests) lines
solves_from c opened floor low other less [] [] legal = tt
solves_from c opened floor low other less [] (line ∷ lines) legal = absurd legal
solves_from c opened floor low other less (Ask b ∷ requests) [] legal = absurd legal
solves_from c opened floor low other less (Solve b ∷ requests) [] legal = absurd legal
solves_from c opened floor low other less (Ask b ∷ requests) (line ∷ lines) legal =
    (legal.0, solves_from c opened (max floor (sum_of c b)) (low_after c low b line) (max other (sum_of c b)) (low_after (from c opened) less b line) requests lines legal.1)
solves_from c opened floor low other less (Solve b ∷ requests) (line ∷ lines) legal =
    (legal.0, solves_from c opened (max floor (sum_of c b)) (low_after c low b line) (max other (sum_of c b)) (low_after (from c opened) less b line) requests lines legal.1)

sessions_from : (c : Case) (opened floor other : ℕ) (sessions : List (List Request)) (told : List (List Line)) → AreLegalSessions c floor (map (map as_solve) sessions) told →
    AreLegalSessions (from c opened) other (map (map as_solve) sessions) told
sessions_from c opened floor other [] [] legal = tt
sessions_from c opened floor other [] (lines ∷ told) legal = absurd legal
sessions_from c opened floor other (requests ∷ sessions) [] legal = absurd legal
sessions_from c opened floor other (requests ∷ sessions) (lines ∷ told) legal =
    (solves_from c opened floor 0 other 0 requests lines legal.0, sessions_from c opened floor other sessions told legal.1)

sum_from : (c : Case) (opened : ℕ) (request : Request) → solved_sum c request ≡ solved_sum (from c opened) request
sum_from c opened (Ask b) = refl
sum_from c opened (Solve b) = refl

grade_from : (c : Case) (opened grade : ℕ) (phase : Phase) → grade_after c grade phase ≡ grade_after (from c opened) grade phase
grade_from c opened grade phase = λ i. max grade (max phase.target (greatest (flat_map (λ requests. map (λ request. sum_from c opened request i) requests) phase.sessions)))

phases_from : (c : Case) (opened grade : ℕ) (phases : List Phase) (reports : List PhaseReport) → AreLegalPhases c grade (map phase_with_solves phases) reports →
    AreLegalPhases (from c opened) grade (map phase_with_solves phases) reports
phases_from c opened grade [] [] legal = tt
phases_from c opened grade [] (report ∷ reports) legal = absurd legal
phases_from c opened grade (phase ∷ phases) [] legal = absurd legal
phases_from c opened grade (phase ∷ phases) (report ∷ reports) legal =
    let one = phase_with_solves phase in (
      sessions_from c opened (max c.opened grade) (max opened grade) phase.sessions report.sessions legal.0,
      subst (λ (g : ℕ). IsLevelShown c.levels (case_reach c g) report.level) (grade_from c opened grade one) legal.1,
      subst (λ (g : ℕ). AreLegalPhases (from c opened) g (map phase_with_solves phases) reports) (grade_from c opened grade one)
          (phases_from c opened (grade_after c grade one) phases reports legal.2),
    )

pub answered_from : (c : Case) (opened : ℕ) (script : Script) (report : Report) → IsLegalAnswered c script report → IsLegalAnswered (from c opened) script report
answered_from c opened script report legal = phases_from c opened 0 script.phases report.phases legal
