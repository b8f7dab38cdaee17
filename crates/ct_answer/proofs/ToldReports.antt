-- What is told with each request taken as a solve is a legal report.
use Rattle.std.proofs.Common.{ℕ, ◌+◌, ◌-◌, ◌*◌, ◌<◌, ◌≤◌, ◌≡◌, max, List, [], ◌∷◌, ◌++◌, length, get_or, take, map, All, true, refl, sym, ap, ap₂, subst, ◌∙◌, arith}
use Rattle.std.specs.List.{flat_map}
use Rattle.std.proofs.lemmas.List.{map_push}
use Rattle.ct_vectors.specs.declared.limits.TheConstants.{ROW_LIMIT, RIGHT_LIMIT, GRADE_LIMIT}
use Rattle.ct_vectors.specs.Vectors.{total}
use Rattle.ct_vectors.proofs.Sums.{total-limit}
use Rattle.ct_instance.specs.Reach.{reach_of}
use Rattle.ct_levels.proofs.Reach.{reach_when_full, reach_when_room}
use Rattle.ct_version.specs.declared.pins.Helped.{Helped}
use Rattle.ct_version.specs.declared.pins.FullMark.{FullMark}
use Rattle.ct_version.specs.Editions.{level_seen}
use Rattle.ct_version.specs.Desks.{Place, IsHelp, IsFullMark}
use Rattle.ct_instance.specs.Versions.{upto}
use Rattle.ct_session.specs.declared.lines.Line.{Line}
use Rattle.ct_input.specs.declared.script.Request.{Request}
use Rattle.ct_input.specs.declared.script.Request.TheVariants.{Ask, Solve}
use Rattle.ct_input.specs.declared.script.Phase.{Phase}
use Rattle.ct_input.specs.Script.{right_of, IsRequest}
use Rattle.ct_report.specs.declared.reports.PhaseReport.{PhaseReport}
use Rattle.ct_legal.specs.Cases.{Case, sum_of, case_reach}
use Rattle.ct_legal.specs.Scripts.{as_solve, phase_with_solves, solved_sum, greatest, grade_after}
use Rattle.ct_legal.specs.Legal.{low_after, AreLegalLines, AreLegalSessions, IsLevelShown, AreLegalPhases}
use Rattle.ct_answer.specs.declared.options.Options.{Options}
use Rattle.ct_answer.specs.Extents.{grade_upto}
use Rattle.ct_answer.specs.Told.{case_at, AreToldLines, AreToldSessions, IsToldPhase, worked_for, all_worked_for}
use Rattle.ct_answer.proofs.Pairing.{one_more}

-- the sum of a right-hand side of m numbers
pub right_sum : (m : ℕ) (b : List ℕ) → m ≤ ROW_LIMIT → length b ≡ m → All (λ x. x ≤ RIGHT_LIMIT) b → total b ≤ GRADE_LIMIT
right_sum m b rows right limit =
    let sum : total b ≤ length b * RIGHT_LIMIT = total-limit RIGHT_LIMIT b limit in
    let most : length b ≤ ROW_LIMIT = subst (λ (n : ℕ). n ≤ ROW_LIMIT) (sym right) rows in
    omega arith

pub request_total : (m : ℕ) (request : Request) → m ≤ ROW_LIMIT → IsRequest m request → total (right_of request) ≤ GRADE_LIMIT
request_total m request rows is = right_sum m (right_of request) rows is.right is.limit

-- ---- levels

pub reach_helped : (p : Place) (g : ℕ) (h : Helped) → IsHelp p g h → level_seen h.level ≡ reach_of p.instance p.limit g
reach_helped p g h help = help.level ∙ sym (reach_when_room p.instance p.limit g help.open_to)

pub reach_marked : (p : Place) (g : ℕ) (m : FullMark) → IsFullMark p g m → upto (m.grade - 1) ≡ reach_of p.instance p.limit g
reach_marked p g m mark = sym (reach_when_full p.instance p.limit g m.grade mark.grade)

-- ---- sessions

pub legal_lines : (p : Place) (o : Options) (floor low : ℕ) (requests : List Request) (lines : List Line) → AreToldLines p o.walks requests lines →
    AreLegalLines (case_at p o) floor low (map as_solve requests) lines
legal_lines p o floor low [] [] told = tt
legal_lines p o floor low [] (line ∷ lines) told = absurd told
legal_lines p o floor low (request ∷ requests) [] told = absurd told
legal_lines p o floor low (Ask b ∷ requests) (line ∷ lines) told =
    (told.0, legal_lines p o (max floor (sum_of (case_at p o) b)) (low_after (case_at p o) low b line) requests lines told.1)
legal_lines p o floor low (Solve b ∷ requests) (line ∷ lines) told =
    (told.0, legal_lines p o (max floor (sum_of (case_at p o) b)) (low_after (case_at p o) low b line) requests lines told.1)

pub legal_sessions : (p : Place) (o : Options) (floor : ℕ) (sessions : List (List Request)) (told : List (List Line)) → AreToldSessions p o.walks sessions told →
    AreLegalSessions (case_at p o) floor (map (map as_solve) sessions) told
legal_sessions p o floor [] [] each = tt
legal_sessions p o floor [] (lines ∷ told) each = absurd each
legal_sessions p o floor (requests ∷ sessions) [] each = absurd each
legal_sessions p o floor (requests ∷ sessions) (lines ∷ told) each = (legal_lines p o floor 0 requests lines each.0, legal_sessions p o floor sessions told each.1)

-- ---- grades

solved_sums : (p : Place) (o : Options) (requests : List Request) → map (solved_sum (case_at p o)) (map as_solve requests) ≡ map (worked_for true) requests
solved_sums p o [] = refl
solved_sums p o (Ask b ∷ requests) = ap (λ ns. total b ∷ ns) (solved_sums p o requests)
solved_sums p o (Solve b ∷ requests) = ap (λ ns. total b ∷ ns) (solved_sums p o requests)

solved_in : (p : Place) (o : Options) (sessions : List (List Request)) →
    flat_map (λ requests. map (solved_sum (case_at p o)) requests) (map (map as_solve) sessions) ≡ all_worked_for true sessions
solved_in p o [] = refl
solved_in p o (requests ∷ sessions) = ap₂ (λ ns ms. ns ++ ms) (solved_sums p o requests) (solved_in p o sessions)

pub grade_told : (p : Place) (o : Options) (grade : ℕ) (phase : Phase) →
    grade_after (case_at p o) grade (phase_with_solves phase) ≡ max grade (max phase.target (greatest (all_worked_for true phase.sessions)))
grade_told p o grade phase = ap (λ ns. max grade (max phase.target (greatest ns))) (solved_in p o phase.sessions)

-- ---- phases

pub grade_pushed : (c : Case) (grade : ℕ) (phases : List Phase) (phase : Phase) → grade_upto c grade (phases ++ phase ∷ []) ≡ grade_after c (grade_upto c grade phases) phase
grade_pushed c grade [] phase = refl
grade_pushed c grade (first ∷ phases) phase = grade_pushed c (grade_after c grade first) phases phase

pub phases_pushed : (c : Case) (grade : ℕ) (phases : List Phase) (reports : List PhaseReport) (phase : Phase) (report : PhaseReport) → AreLegalPhases c grade phases reports →
    AreLegalSessions c (max c.opened (grade_upto c grade phases)) phase.sessions report.sessions →
    IsLevelShown c.levels (case_reach c (grade_after c (grade_upto c grade phases) phase)) report.level →
    AreLegalPhases c grade (phases ++ phase ∷ []) (reports ++ report ∷ [])
phases_pushed c grade [] [] phase report legal sessions level = (sessions, level, tt)
phases_pushed c grade [] (r ∷ reports) phase report legal sessions level = absurd legal
phases_pushed c grade (first ∷ phases) [] phase report legal sessions level = absurd legal
phases_pushed c grade (first ∷ phases) (r ∷ reports) phase report legal sessions level =
    (legal.0, legal.1, phases_pushed c (grade_after c grade first) phases reports phase report legal.2 sessions level)

-- the phases up to the k-th, with their grade
pub record AreToldUpto (p : Place) (o : Options) (phases : List Phase) (k grade : ℕ) (reports : List PhaseReport) : Type 0 where
  pub legal : AreLegalPhases (case_at p o) 0 (map phase_with_solves (take k phases)) reports
  pub grade_is : grade ≡ grade_upto (case_at p o) 0 (map phase_with_solves (take k phases))

pub told_more : (p : Place) (o : Options) (phases : List Phase) (k grade next : ℕ) (reports : List PhaseReport) (phase : Phase) (report : PhaseReport) →
    k < length phases → phase ≡ get_or phases k phase → AreToldUpto p o phases k grade reports →
    next ≡ max grade (max phase.target (greatest (all_worked_for true phase.sessions))) → IsToldPhase p o next phase report →
    AreToldUpto p o phases (k + 1) next (reports ++ report ∷ [])
told_more p o phases k grade next reports phase report inside is so_far next_is told =
    let c : Case = case_at p o in
    let front : List Phase = map phase_with_solves (take k phases) in
    let pushed : front ++ phase_with_solves phase ∷ [] ≡ map phase_with_solves (take (k + 1) phases) =
    sym (map_push phase_with_solves (take k phases) phase) ∙ ap (map phase_with_solves) (one_more phases k phase inside is) in
    let grows : next ≡ grade_after c (grade_upto c 0 front) (phase_with_solves phase) =
    next_is ∙ sym (grade_told p o grade phase) ∙ ap (λ g. grade_after c g (phase_with_solves phase)) so_far.grade_is in
    record {
      legal = subst (λ ps. AreLegalPhases c 0 ps (reports ++ report ∷ [])) pushed
          (phases_pushed c 0 front reports (phase_with_solves phase) report so_far.legal
          (legal_sessions p o (max 0 (grade_upto c 0 front)) phase.sessions report.sessions told.sessions)
          (subst (λ g. IsLevelShown o.levels (case_reach c g) report.level) grows told.level));
      grade_is = grows ∙ sym (grade_pushed c 0 front (phase_with_solves phase)) ∙ ap (grade_upto c 0) pushed;
    }
