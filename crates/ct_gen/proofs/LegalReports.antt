-- A legal report has as many lines as its script has requests, and their costs are within the limits of the instance.
use Rattle.std.proofs.Common.{◌≡◌, ℕ, zero, suc, ℤ, pos, ◌+ℤ◌, ◌*ℤ◌, ◌+◌, ◌*◌, ◌≤◌, ◌<◌, nat_abs, nat_eq, Bool, true, false, cond, List, [], ◌∷◌, ◌++◌, length, map, take, All, Option, Some, None, refl, sym, ap, subst, ◌∙◌, arith}
use Rattle.std.specs.List.{flat_map}
use Rattle.std.proofs.Math.IntN.{+ℤ_comm}
use Rattle.std.proofs.lemmas.List.{length-append}
use Rattle.std.proofs.lemmas.List.Elements.{All-nil, All-cons, All-head, All-tail, All-append, All-weaker, All-take}
use Rattle.ct_vectors.specs.declared.limits.TheConstants.{COLUMN_LIMIT, COST_LIMIT, RIGHT_LIMIT, GRADE_LIMIT, JOB_GRADE_LIMIT}
use Rattle.ct_order.specs.Costs.{IsCostRow}
use Rattle.ct_order.specs.Order.{art_total_of, cost_of as cost_by}
use Rattle.ct_order.proofs.CostSums.{abs-product}
use Rattle.ct_instance.specs.Instance.{Problem, IsInstance, IsRight, column_count}
use Rattle.ct_instance.specs.Fiber.{least_of}
use Rattle.ct_instance.specs.Answer.{Outcome, optimum, infeasible, costs_of, outcome_of, answer_of}
use Rattle.ct_input.specs.declared.script.Request.{Request}
use Rattle.ct_input.specs.declared.script.Request.TheVariants.{Ask, Solve}
use Rattle.ct_input.specs.declared.script.Phase.{Phase}
use Rattle.ct_input.specs.declared.script.Script.{Script}
use Rattle.ct_input.specs.Script.{IsRequest, IsPhase, IsScript}
use Rattle.ct_version.specs.declared.answers.Answer.{Answer}
use Rattle.ct_version.specs.declared.answers.Answer.TheVariants.{Optimum, Infeasible}
use Rattle.ct_version.specs.Answers.{outcome_seen}
use Rattle.ct_session.specs.declared.lines.Line.{Line}
use Rattle.ct_session.specs.declared.lines.Line.TheVariants.{Answered, NotYet, Full}
use Rattle.ct_session.specs.Lines.{IsAnsweredLine, IsFullOrAnswered}
use Rattle.ct_report.specs.declared.reports.PhaseReport.{PhaseReport}
use Rattle.ct_report.specs.declared.reports.Report.{Report}
use Rattle.ct_instance.specs.Reach.{full_grade_up_to}
use Rattle.ct_instance.proofs.Points.{least-limit}
use Rattle.ct_vectors.specs.Vectors.{total}
use Rattle.ct_legal.specs.Cases.{Case, plain_case}
use Rattle.ct_legal.specs.Scripts.{as_solve, phase_with_solves, grade_after}
use Rattle.ct_legal.specs.Legal.{AreLegalLines, AreLegalSessions, AreLegalPhases, IsLegalAnswered, low_after}
use Rattle.ct_gen.specs.Tallies.{lines_of, phase_lines, cost_of, first_of, HasCost}
use Rattle.ct_gen.specs.Laws.{requests_of, CanBeTallied}

-- ---- costs

abbrev MOST : ℕ
MOST = COLUMN_LIMIT * (COST_LIMIT * JOB_GRADE_LIMIT)

-- the cost of a point by a row
cost-limit : (row : List ℤ) (x : List ℕ) → All (λ c. nat_abs c ≤ COST_LIMIT) row → All (λ a. a ≤ JOB_GRADE_LIMIT) x → nat_abs (cost_by row x) ≤ length row * (COST_LIMIT * JOB_GRADE_LIMIT)
cost-limit [] x costs within = omega arith
cost-limit (c ∷ cs) [] costs within = omega arith
cost-limit (c ∷ cs) (a ∷ x) costs within =
    let later : nat_abs (cost_by cs x) ≤ length cs * (COST_LIMIT * JOB_GRADE_LIMIT) = cost-limit cs x (All-tail (λ d. nat_abs d ≤ COST_LIMIT) c cs costs) (All-tail (λ b. b ≤ JOB_GRADE_LIMIT) a x within) in
    let sum : nat_abs (cost_by cs x +ℤ (c *ℤ pos a)) ≤ (length cs + 1) * (COST_LIMIT * JOB_GRADE_LIMIT) = abs-product (cost_by cs x) c a (length cs) later (All-head (λ d. nat_abs d ≤ COST_LIMIT) c cs costs) (All-head (λ b. b ≤ JOB_GRADE_LIMIT) a x within) in
    let turned : nat_abs ((c *ℤ pos a) +ℤ cost_by cs x) ≤ (length cs + 1) * (COST_LIMIT * JOB_GRADE_LIMIT) = subst (λ (z : ℤ). nat_abs z ≤ (length cs + 1) * (COST_LIMIT * JOB_GRADE_LIMIT)) (+ℤ_comm (cost_by cs x) (c *ℤ pos a)) sum in
    omega arith

-- the first cost of a point
first-limit : (n : ℕ) (rows : List (List ℤ)) (x : List ℕ) → n ≤ COLUMN_LIMIT → All (IsCostRow n) rows → All (λ a. a ≤ JOB_GRADE_LIMIT) x → nat_abs (first_of (map (λ row. cost_by row x) rows)) ≤ MOST
first-limit n [] x few rows within = omega arith
first-limit n (row ∷ rows) x few are within =
    let row_is : IsCostRow n row = All-head (IsCostRow n) row rows are in
    let limit : nat_abs (cost_by row x) ≤ length row * (COST_LIMIT * JOB_GRADE_LIMIT) = cost-limit row x row_is.limit within in
    let long : length row ≡ n = row_is.entries in
    omega arith

-- the cost of an outcome is one that a tally takes
abbrev OutcomeFits : Outcome → Type 0
OutcomeFits (optimum x costs) = nat_abs (first_of costs) ≤ MOST
OutcomeFits (infeasible short) = Unit {0}

either_fits : (test : Bool) (a b : Outcome) → OutcomeFits a → OutcomeFits b → OutcomeFits (cond test a b)
either_fits true a b h k = h
either_fits false a b h k = k

answer_fits : (i : Problem) → IsInstance i → (b : List ℕ) → IsRight i b → All (λ x. x ≤ RIGHT_LIMIT) b → OutcomeFits (answer_of i b)
answer_fits i inst b right limit =
    let p = least_of i b in
    let within : All (λ a. a ≤ JOB_GRADE_LIMIT) p = All-weaker (λ a. a ≤ GRADE_LIMIT) (λ a. a ≤ JOB_GRADE_LIMIT) (λ a small. omega arith) p (least-limit i inst b right limit) in
    either_fits (nat_eq (art_total_of (column_count i) p) 0) (optimum (take (column_count i) p) (costs_of i (take (column_count i) p))) (infeasible (art_total_of (column_count i) p))
    (first-limit (column_count i) i.cost_rows (take (column_count i) p) inst.column_limit inst.is_cost_row (All-take (λ a. a ≤ JOB_GRADE_LIMIT) (column_count i) p within)) tt

-- ---- lines

answered-cost : (answer : Answer) (walk : Option (List (ℕ × ℕ))) → OutcomeFits (outcome_seen answer) → HasCost (Answered answer walk)
answered-cost (Optimum point costs) walk h = h
answered-cost (Infeasible short) walk h = omega arith

line-cost : (i : Problem) (walks : Bool) (outcome : Outcome) (b : List ℕ) (line : Line) → OutcomeFits outcome → IsAnsweredLine i walks outcome b line → HasCost line
line-cost i walks outcome b (Answered answer walk) fits is = answered-cost answer walk (subst OutcomeFits (sym is.0) fits)
line-cost i walks outcome b (NotYet finished) fits is = absurd is
line-cost i walks outcome b (Full grade) fits is = absurd is

full_or-cost : (o : Option ℕ) (i : Problem) (walks : Bool) (outcome : Outcome) (b : List ℕ) (line : Line) → OutcomeFits outcome → IsFullOrAnswered o i walks outcome b line → HasCost line
full_or-cost (Some f) i walks outcome b line fits is = let small : HasCost (Full f) = omega arith in subst HasCost (sym is) small
full_or-cost None i walks outcome b line fits is = line-cost i walks outcome b line fits is

-- so many lines, with costs that a tally takes
record AreTold (count : ℕ) (lines : List Line) : Type 0 where
  count_is : length lines ≡ count
  costs : All HasCost lines

told_more : (count : ℕ) (line : Line) (lines : List Line) → HasCost line → AreTold count lines → AreTold (suc count) (line ∷ lines)
told_more count line lines here told = record { count_is = ap suc told.count_is; costs = All-cons HasCost line lines here told.costs }

told_both : (m n : ℕ) (lines others : List Line) → AreTold m lines → AreTold n others → AreTold (m + n) (lines ++ others)
told_both m n lines others told more = record {
  count_is = length-append lines others ∙ (let e : length lines + length others ≡ m + n = rw (told.count_is, more.count_is) refl in e);
  costs = All-append HasCost lines others told.costs more.costs;
}

module _ (i : Problem) (inst : IsInstance i) (limit : ℕ) (walks levels : Bool) where
  abbrev case : Case
  case = plain_case i limit walks levels

  request_fits : (b : List ℕ) → IsRight i b → All (λ x. x ≤ RIGHT_LIMIT) b → (line : Line) → IsFullOrAnswered (full_grade_up_to i limit (total b)) i walks (answer_of i b) b line → HasCost line
  request_fits b right small line is = full_or-cost (full_grade_up_to i limit (total b)) i walks (answer_of i b) b line (answer_fits i inst b right small) is

  lines_told : (rs : List Request) (lines : List Line) (floor low : ℕ) → All (IsRequest i.rows) rs → AreLegalLines case floor low (map as_solve rs) lines → AreTold (length rs) lines
  lines_told [] [] floor low are legal = record { count_is = refl; costs = All-nil HasCost }
  lines_told [] (line ∷ lines) floor low are legal = absurd legal
  lines_told (Ask b ∷ rs) [] floor low are legal = absurd legal
  lines_told (Solve b ∷ rs) [] floor low are legal = absurd legal
  lines_told (Ask b ∷ rs) (line ∷ lines) floor low are legal =
      let first : IsRequest i.rows (Ask b) = All-head (IsRequest i.rows) (Ask b) rs are in
      told_more (length rs) line lines (request_fits b first.right first.limit line legal.0) (lines_told rs lines _ _ (All-tail (IsRequest i.rows) (Ask b) rs are) legal.1)
  lines_told (Solve b ∷ rs) (line ∷ lines) floor low are legal =
      let first : IsRequest i.rows (Solve b) = All-head (IsRequest i.rows) (Solve b) rs are in
      told_more (length rs) line lines (request_fits b first.right first.limit line legal.0) (lines_told rs lines _ _ (All-tail (IsRequest i.rows) (Solve b) rs are) legal.1)

  sessions_told : (sessions : List (List Request)) (told : List (List Line)) (floor : ℕ) → All (λ rs. All (IsRequest i.rows) rs) sessions → AreLegalSessions case floor (map (map as_solve) sessions) told →
      AreTold (length (flat_map (λ rs. rs) sessions)) (flat_map (λ lines. lines) told)
  sessions_told [] [] floor are legal = record { count_is = refl; costs = All-nil HasCost }
  sessions_told [] (lines ∷ told) floor are legal = absurd legal
  sessions_told (rs ∷ sessions) [] floor are legal = absurd legal
  sessions_told (rs ∷ sessions) (lines ∷ told) floor are legal =
      let all : List Request → Type 0 = λ rs. All (IsRequest i.rows) rs in
      subst (λ (n : ℕ). AreTold n (lines ++ flat_map (λ ls. ls) told)) (sym (length-append rs (flat_map (λ qs. qs) sessions)))
      (told_both (length rs) (length (flat_map (λ qs. qs) sessions)) lines (flat_map (λ ls. ls) told)
      (lines_told rs lines floor 0 (All-head all rs sessions are) legal.0) (sessions_told sessions told floor (All-tail all rs sessions are) legal.1))

  phases_told : (phases : List Phase) (told : List PhaseReport) (grade : ℕ) → All (IsPhase i.rows) phases → AreLegalPhases case grade (map phase_with_solves phases) told →
      AreTold (length (flat_map (λ phase. flat_map (λ rs. rs) phase.sessions) phases)) (flat_map phase_lines told)
  phases_told [] [] grade are legal = record { count_is = refl; costs = All-nil HasCost }
  phases_told [] (one ∷ told) grade are legal = absurd legal
  phases_told (phase ∷ phases) [] grade are legal = absurd legal
  phases_told (phase ∷ phases) (one ∷ told) grade are legal =
      let front = flat_map (λ qs. qs) phase.sessions in
      let others = flat_map (λ p. flat_map (λ qs. qs) p.sessions) phases in
      subst (λ (n : ℕ). AreTold n (phase_lines one ++ flat_map phase_lines told)) (sym (length-append front others))
      (told_both (length front) (length others) (phase_lines one) (flat_map phase_lines told)
      (sessions_told phase.sessions one.sessions _ (All-head (IsPhase i.rows) phase phases are).sessions legal.0) (phases_told phases told _ (All-tail (IsPhase i.rows) phase phases are) legal.2))

  pub can_be_tallied : (script : Script) (report : Report) → IsScript i.rows script → IsLegalAnswered case script report → CanBeTallied script report
  can_be_tallied script report is legal =
      let told = phases_told script.phases report.phases 0 is legal in
      record { count = told.count_is; costs = told.costs }
