-- A legal report of the equality form, cut, is legal for the form.
use Rattle.std.proofs.Common.{ℕ, ◌≡◌, max, Bool, List, [], ◌∷◌, ◌++◌, length, map, Option, Some, None, refl, subst, ap, ap₂, ◌∙◌}
use Rattle.std.specs.List.{flat_map}
use Rattle.std.proofs.lemmas.List.Folds.{flat_map-map}
use Rattle.ct_instance.specs.Instance.{Problem}
use Rattle.ct_instance.specs.Answer.{Outcome, answer_of}
use Rattle.ct_instance.specs.Reach.{full_grade_up_to}
use Rattle.ct_version.specs.declared.answers.Answer.{Answer}
use Rattle.ct_version.specs.declared.answers.Answer.TheVariants.{Optimum, Infeasible}
use Rattle.ct_version.specs.Answers.{outcome_seen}
use Rattle.ct_session.specs.declared.lines.Line.{Line}
use Rattle.ct_session.specs.declared.lines.Line.TheVariants.{Answered, NotYet, Full}
use Rattle.ct_session.specs.Lines.{IsAnsweredLine, IsFullOrAnswered}
use Rattle.ct_input.specs.declared.script.Request.{Request}
use Rattle.ct_input.specs.declared.script.Request.TheVariants.{Ask, Solve}
use Rattle.ct_input.specs.declared.script.Phase.{Phase}
use Rattle.ct_input.specs.declared.script.Script.{Script}
use Rattle.ct_report.specs.declared.reports.PhaseReport.{PhaseReport}
use Rattle.ct_report.specs.declared.reports.Report.{Report}
use Rattle.ct_legal.specs.Cases.{Case, plain_case, sum_of, case_reach}
use Rattle.ct_legal.specs.Scripts.{as_solve, phase_with_solves, with_solves, greatest, solved_sum, grade_after}
use Rattle.ct_legal.specs.Legal.{IsAsked, low_after, AreLegalLines, AreLegalSessions, IsLevelShown, AreLegalPhases, IsLegalServed, IsLegalAnswered}
use Rattle.ct_form.specs.Forms.{Form, given_in}
use Rattle.ct_form.specs.EqualityForms.{equal_of, cut_to}
use Rattle.ct_form_report.specs.FormCases.{form_case, request_with, phase_with, widened, trimmed_answer, trimmed_line, trimmed_phase, trimmed}
use Rattle.ct_form_report.specs.Laws.{opened_case}

-- ---- an answer

seen_trimmed : (n : ℕ) (answer : Answer) → outcome_seen (trimmed_answer n answer) ≡ cut_to n (outcome_seen answer)
seen_trimmed n (Optimum point costs) = refl
seen_trimmed n (Infeasible short) = refl

answered_trimmed : (n : ℕ) (i : Problem) (walks : Bool) (outcome : Outcome) (b : List ℕ) (line : Line) →
    IsAnsweredLine i walks outcome b line → IsAnsweredLine i walks (cut_to n outcome) b (trimmed_line n line)
answered_trimmed n i walks outcome b (Answered answer walk) h = (seen_trimmed n answer ∙ ap (cut_to n) h.0, h.1)
answered_trimmed n i walks outcome b (NotYet finished) h = absurd h
answered_trimmed n i walks outcome b (Full grade) h = absurd h

solved_trimmed : (n : ℕ) (full : Option ℕ) (i : Problem) (walks : Bool) (outcome : Outcome) (b : List ℕ) (line : Line) →
    IsFullOrAnswered full i walks outcome b line → IsFullOrAnswered full i walks (cut_to n outcome) b (trimmed_line n line)
solved_trimmed n (Some f) i walks outcome b line h = ap (trimmed_line n) h
solved_trimmed n None i walks outcome b line h = answered_trimmed n i walks outcome b line h

-- ---- a form, and the run of its equality form

module _ (f : Form) (limit : ℕ) (walks levels : Bool) (opened : ℕ) where
  abbrev inner : Case
  inner = opened_case (plain_case (equal_of f) limit walks levels) opened

  abbrev outer : Case
  outer = form_case f limit walks levels opened

  abbrev given : List ℕ
  given = given_in f.bounds

  abbrev n : ℕ
  n = length f.columns

  asked_trimmed : (floor low : ℕ) (b : List ℕ) (line : Line) → IsAsked inner floor low (b ++ given) line → IsAsked outer floor low b (trimmed_line n line)
  asked_trimmed floor low b (Answered answer walk) h = (h.0, answered_trimmed n (equal_of f) walks (answer_of (equal_of f) (b ++ given)) (b ++ given) (Answered answer walk) h.1)
  asked_trimmed floor low b (NotYet finished) h = record { level = h.level; below = h.below; reached = h.reached; rises = h.rises }
  asked_trimmed floor low b (Full grade) h = absurd h

  low_same : (low : ℕ) (b : List ℕ) (line : Line) → low_after inner low (b ++ given) line ≡ low_after outer low b (trimmed_line n line)
  low_same low b (Answered answer walk) = refl
  low_same low b (NotYet finished) = refl
  low_same low b (Full grade) = refl

  lines_trimmed : (floor low : ℕ) (requests : List Request) (lines : List Line) →
      AreLegalLines inner floor low (map (request_with given) requests) lines → AreLegalLines outer floor low requests (map (trimmed_line n) lines)
  lines_trimmed floor low [] [] h = tt
  lines_trimmed floor low [] (line ∷ lines) h = absurd h
  lines_trimmed floor low (Solve b ∷ requests) [] h = absurd h
  lines_trimmed floor low (Ask b ∷ requests) [] h = absurd h
  lines_trimmed floor low (Solve b ∷ requests) (line ∷ lines) h = (
    solved_trimmed n (full_grade_up_to (equal_of f) limit (sum_of outer b)) (equal_of f) walks (answer_of (equal_of f) (b ++ given)) (b ++ given) line h.0,
    subst (λ low. AreLegalLines outer (max floor (sum_of outer b)) low requests (map (trimmed_line n) lines)) (low_same low b line)
        (lines_trimmed (max floor (sum_of outer b)) (low_after inner low (b ++ given) line) requests lines h.1),
  )
  lines_trimmed floor low (Ask b ∷ requests) (line ∷ lines) h = (
    asked_trimmed floor low b line h.0,
    subst (λ low. AreLegalLines outer floor low requests (map (trimmed_line n) lines)) (low_same low b line)
        (lines_trimmed floor (low_after inner low (b ++ given) line) requests lines h.1),
  )

  sessions_trimmed : (floor : ℕ) (sessions : List (List Request)) (told : List (List Line)) →
      AreLegalSessions inner floor (map (map (request_with given)) sessions) told → AreLegalSessions outer floor sessions (map (map (trimmed_line n)) told)
  sessions_trimmed floor [] [] h = tt
  sessions_trimmed floor [] (lines ∷ told) h = absurd h
  sessions_trimmed floor (requests ∷ sessions) [] h = absurd h
  sessions_trimmed floor (requests ∷ sessions) (lines ∷ told) h = (lines_trimmed floor 0 requests lines h.0, sessions_trimmed floor sessions told h.1)

  sum_same : (request : Request) → solved_sum inner (request_with given request) ≡ solved_sum outer request
  sum_same (Ask b) = refl
  sum_same (Solve b) = refl

  sums_same : (requests : List Request) → map (solved_sum inner) (map (request_with given) requests) ≡ map (solved_sum outer) requests
  sums_same [] = refl
  sums_same (request ∷ requests) = ap₂ ◌∷◌ (sum_same request) (sums_same requests)

  all_sums_same : (sessions : List (List Request)) →
      flat_map (λ requests. map (solved_sum inner) requests) (map (map (request_with given)) sessions) ≡ flat_map (λ requests. map (solved_sum outer) requests) sessions
  all_sums_same sessions =
      flat_map-map (λ requests. map (solved_sum inner) requests) (map (request_with given)) sessions ∙
      (λ t. flat_map (λ requests. sums_same requests t) sessions)

  grade_same : (grade : ℕ) (phase : Phase) → grade_after inner grade (phase_with given phase) ≡ grade_after outer grade phase
  grade_same grade phase = ap (λ sums. max grade (max phase.target (greatest sums))) (all_sums_same phase.sessions)

  phases_trimmed : (grade : ℕ) (phases : List Phase) (told : List PhaseReport) →
      AreLegalPhases inner grade (map (phase_with given) phases) told → AreLegalPhases outer grade phases (map (trimmed_phase n) told)
  phases_trimmed grade [] [] h = tt
  phases_trimmed grade [] (told ∷ others) h = absurd h
  phases_trimmed grade (phase ∷ phases) [] h = absurd h
  phases_trimmed grade (phase ∷ phases) (told ∷ others) h = (
    sessions_trimmed (max opened grade) phase.sessions told.sessions h.0,
    subst (λ g. IsLevelShown levels (case_reach outer g) told.level) (grade_same grade phase) h.1,
    subst (λ g. AreLegalPhases outer g phases (map (trimmed_phase n) others)) (grade_same grade phase)
        (phases_trimmed (grade_after inner grade (phase_with given phase)) phases others h.2),
  )

  pub trimmed_is_legal : (script : Script) (report : Report) → IsLegalServed inner (widened f script) report → IsLegalServed outer script (trimmed n report)
  trimmed_is_legal script report h = phases_trimmed 0 script.phases report.phases h

-- ---- asks as solves

solve_widened : (us : List ℕ) (request : Request) → as_solve (request_with us request) ≡ request_with us (as_solve request)
solve_widened us (Ask b) = refl
solve_widened us (Solve b) = refl

session_widened : (us : List ℕ) (requests : List Request) → map as_solve (map (request_with us) requests) ≡ map (request_with us) (map as_solve requests)
session_widened us [] = refl
session_widened us (request ∷ requests) = ap₂ ◌∷◌ (solve_widened us request) (session_widened us requests)

sessions_widened : (us : List ℕ) (sessions : List (List Request)) →
    map (map as_solve) (map (map (request_with us)) sessions) ≡ map (map (request_with us)) (map (map as_solve) sessions)
sessions_widened us [] = refl
sessions_widened us (requests ∷ sessions) = ap₂ ◌∷◌ (session_widened us requests) (sessions_widened us sessions)

abbrev phase_of : ℕ → List (List Request) → Phase
phase_of target sessions = record { target = target; sessions = sessions }

phases_widened : (us : List ℕ) (phases : List Phase) → map phase_with_solves (map (phase_with us) phases) ≡ map (phase_with us) (map phase_with_solves phases)
phases_widened us [] = refl
phases_widened us (phase ∷ phases) = ap₂ ◌∷◌ (ap (phase_of phase.target) (sessions_widened us phase.sessions)) (phases_widened us phases)

abbrev script_of : List Phase → Script
script_of phases = record { phases = phases }

pub widened_with_solves : (f : Form) (script : Script) → with_solves (widened f script) ≡ widened f (with_solves script)
widened_with_solves f script = ap script_of (phases_widened (given_in f.bounds) script.phases)

pub trimmed_is_answered : (f : Form) (limit : ℕ) (walks levels : Bool) (opened : ℕ) (script : Script) (report : Report) →
    IsLegalAnswered (opened_case (plain_case (equal_of f) limit walks levels) opened) (widened f script) report →
    IsLegalAnswered (form_case f limit walks levels opened) script (trimmed (length f.columns) report)
trimmed_is_answered f limit walks levels opened script report h =
    trimmed_is_legal f limit walks levels opened (with_solves script) report
    (subst (λ s. IsLegalServed (opened_case (plain_case (equal_of f) limit walks levels) opened) s report) (widened_with_solves f script) h)
