-- With asks as solves at most one report is legal.
use Rattle.std.proofs.Common.{ℕ, ◌≡◌, max, Bool, true, false, List, [], ◌∷◌, map, Option, Some, None, refl, sym, ap, ◌∙◌}
use Rattle.ct_vectors.specs.Vectors.{total}
use Rattle.ct_instance.specs.Instance.{Problem, start_of}
use Rattle.ct_instance.specs.Fiber.{least_of}
use Rattle.ct_instance.specs.Answer.{Outcome}
use Rattle.ct_instance.specs.TestSet.{test_list}
use Rattle.ct_instance.specs.Versions.{Level}
use Rattle.ct_instance.specs.Reach.{full_grade_up_to}
use Rattle.ct_walk.proofs.WalkFacts.{walk_one}
use Rattle.ct_version.specs.declared.answers.Answer.{Answer}
use Rattle.ct_version.specs.declared.answers.Answer.TheVariants.{Optimum, Infeasible}
use Rattle.ct_version.specs.declared.finished.Finished.{Finished}
use Rattle.ct_version.specs.declared.finished.Finished.TheVariants.{Upto, All}
use Rattle.ct_version.specs.Answers.{outcome_seen}
use Rattle.ct_version.specs.Editions.{level_seen}
use Rattle.ct_session.specs.declared.lines.Line.{Line}
use Rattle.ct_session.specs.declared.lines.Line.TheVariants.{Answered, NotYet, Full}
use Rattle.ct_session.specs.Lines.{IsWalkShown, IsAnsweredLine, IsFullOrAnswered}
use Rattle.ct_input.specs.declared.script.Request.{Request}
use Rattle.ct_input.specs.declared.script.Request.TheVariants.{Ask, Solve}
use Rattle.ct_input.specs.declared.script.Phase.{Phase}
use Rattle.ct_input.specs.declared.script.Script.{Script}
use Rattle.ct_report.specs.declared.reports.PhaseReport.{PhaseReport}
use Rattle.ct_report.specs.declared.reports.Report.{Report}
use Rattle.ct_legal.specs.Cases.{Case, sum_of, case_reach}
use Rattle.ct_legal.specs.Scripts.{as_solve, phase_with_solves, grade_after}
use Rattle.ct_legal.specs.Legal.{IsSolved, low_after, AreLegalLines, AreLegalSessions, IsLevelShown, AreLegalPhases, IsLegalAnswered}

-- ---- the line of a solve

same_answer : (a d : Answer) → outcome_seen a ≡ outcome_seen d → a ≡ d
same_answer (Optimum p x) (Optimum q y) e = cc
same_answer (Optimum p x) (Infeasible t) e = cc
same_answer (Infeasible s) (Optimum q y) e = cc
same_answer (Infeasible s) (Infeasible t) e = cc

same_walk : (i : Problem) (walks : Bool) (b : List ℕ) (s t : Option (List (ℕ × ℕ))) → IsWalkShown i walks b s → IsWalkShown i walks b t → s ≡ t
same_walk i true b (Some s) (Some t) x y = ap Some (walk_one (test_list i (total b)) (start_of i b) (least_of i b) (least_of i b) s t x y).0
same_walk i true b (Some s) None x y = absurd y
same_walk i true b None t x y = absurd x
same_walk i false b (Some s) t x y = absurd x
same_walk i false b None (Some t) x y = absurd y
same_walk i false b None None x y = refl

same_answered : (i : Problem) (walks : Bool) (o : Outcome) (b : List ℕ) (l m : Line) → IsAnsweredLine i walks o b l → IsAnsweredLine i walks o b m → l ≡ m
same_answered i walks o b (Answered a s) (Answered d t) x y =
    let e : a ≡ d = same_answer a d (x.0 ∙ sym y.0) in
    let f : s ≡ t = same_walk i walks b s t x.1 y.1 in
    ap (λ z. Answered z s) e ∙ ap (λ z. Answered d z) f
same_answered i walks o b (Answered a s) (NotYet f) x y = absurd y
same_answered i walks o b (Answered a s) (Full g) x y = absurd y
same_answered i walks o b (NotYet f) m x y = absurd x
same_answered i walks o b (Full g) m x y = absurd x

same_full_or : (full : Option ℕ) (i : Problem) (walks : Bool) (o : Outcome) (b : List ℕ) (l m : Line) →
    IsFullOrAnswered full i walks o b l → IsFullOrAnswered full i walks o b m → l ≡ m
same_full_or (Some f) i walks o b l m x y = x ∙ sym y
same_full_or None i walks o b l m x y = same_answered i walks o b l m x y

pub same_solved : (c : Case) (b : List ℕ) (l m : Line) → IsSolved c b l → IsSolved c b m → l ≡ m
same_solved c b l m x y = same_full_or (full_grade_up_to c.instance c.limit (total (c.right b))) c.instance c.walks (c.shown b) (c.right b) l m x y

-- ---- sessions

same_cons : {X : Type 0} (x y : X) (xs ys : List X) → x ≡ y → xs ≡ ys → (x ∷ xs) ≡ (y ∷ ys)
same_cons x y xs ys e f = cc

same_lines : (c : Case) (floor low least : ℕ) (requests : List Request) (ls ms : List Line) →
    AreLegalLines c floor low (map as_solve requests) ls → AreLegalLines c floor least (map as_solve requests) ms → ls ≡ ms
same_lines c floor low least [] [] [] x y = refl
same_lines c floor low least [] [] (m ∷ ms) x y = absurd y
same_lines c floor low least [] (l ∷ ls) ms x y = absurd x
same_lines c floor low least (request ∷ requests) [] ms x y = absurd x
same_lines c floor low least (request ∷ requests) (l ∷ ls) [] x y = absurd y
same_lines c floor low least (Ask b ∷ requests) (l ∷ ls) (m ∷ ms) x y =
    same_cons l m ls ms (same_solved c b l m x.0 y.0)
    (same_lines c (max floor (sum_of c b)) (low_after c low b l) (low_after c least b m) requests ls ms x.1 y.1)
same_lines c floor low least (Solve b ∷ requests) (l ∷ ls) (m ∷ ms) x y =
    same_cons l m ls ms (same_solved c b l m x.0 y.0)
    (same_lines c (max floor (sum_of c b)) (low_after c low b l) (low_after c least b m) requests ls ms x.1 y.1)

same_sessions : (c : Case) (floor : ℕ) (sessions : List (List Request)) (ls ms : List (List Line)) →
    AreLegalSessions c floor (map (map as_solve) sessions) ls → AreLegalSessions c floor (map (map as_solve) sessions) ms → ls ≡ ms
same_sessions c floor [] [] [] x y = refl
same_sessions c floor [] [] (m ∷ ms) x y = absurd y
same_sessions c floor [] (l ∷ ls) ms x y = absurd x
same_sessions c floor (session ∷ sessions) [] ms x y = absurd x
same_sessions c floor (session ∷ sessions) (l ∷ ls) [] x y = absurd y
same_sessions c floor (session ∷ sessions) (l ∷ ls) (m ∷ ms) x y =
    same_cons l m ls ms (same_lines c floor 0 0 session l m x.0 y.0) (same_sessions c floor sessions ls ms x.1 y.1)

-- ---- levels

pub same_finished : (x y : Finished) → level_seen x ≡ level_seen y → x ≡ y
same_finished (Upto f) (Upto g) e = cc
same_finished (Upto f) All e = cc
same_finished All (Upto g) e = cc
same_finished All All e = refl

same_level : (levels : Bool) (level : Level) (x y : Option Finished) → IsLevelShown levels level x → IsLevelShown levels level y → x ≡ y
same_level true level (Some x) (Some y) e f = ap Some (same_finished x y (e ∙ sym f))
same_level true level (Some x) None e f = absurd f
same_level true level None y e f = absurd e
same_level false level (Some x) y e f = absurd e
same_level false level None (Some y) e f = absurd f
same_level false level None None e f = refl

-- ---- phases

abbrev told_of : List (List Line) → Option Finished → PhaseReport
told_of sessions level = record { sessions = sessions; level = level }

same_phase : (p q : PhaseReport) → p.sessions ≡ q.sessions → p.level ≡ q.level → p ≡ q
same_phase p q e f = ap (λ s. told_of s p.level) e ∙ ap (λ l. told_of q.sessions l) f

same_phases : (c : Case) (grade : ℕ) (phases : List Phase) (ps qs : List PhaseReport) →
    AreLegalPhases c grade (map phase_with_solves phases) ps → AreLegalPhases c grade (map phase_with_solves phases) qs → ps ≡ qs
same_phases c grade [] [] [] x y = refl
same_phases c grade [] [] (q ∷ qs) x y = absurd y
same_phases c grade [] (p ∷ ps) qs x y = absurd x
same_phases c grade (phase ∷ phases) [] qs x y = absurd x
same_phases c grade (phase ∷ phases) (p ∷ ps) [] x y = absurd y
same_phases c grade (phase ∷ phases) (p ∷ ps) (q ∷ qs) x y =
    let next : ℕ = grade_after c grade (phase_with_solves phase) in
    same_cons p q ps qs
    (same_phase p q (same_sessions c (max c.opened grade) phase.sessions p.sessions q.sessions x.0 y.0)
    (same_level c.levels (case_reach c next) p.level q.level x.1 y.1))
    (same_phases c next phases ps qs x.2 y.2)

abbrev report_with : List PhaseReport → Report
report_with phases = record { phases = phases }

pub one_report : (c : Case) (script : Script) (r q : Report) → IsLegalAnswered c script r → IsLegalAnswered c script q → r ≡ q
one_report c script r q x y = ap report_with (same_phases c 0 script.phases r.phases q.phases x y)
