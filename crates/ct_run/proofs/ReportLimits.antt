-- A legal report is within the limits of reading.
use Rattle.std.proofs.Common.{◌≡◌, ℕ, zero, suc, ℤ, pos, ◌+ℤ◌, ◌*ℤ◌, ◌+◌, ◌-◌, ◌*◌, ◌≤◌, ◌<◌, nat_abs, nat_eq, Bool, true, false, cond, List, [], ◌∷◌, length, map, take, All, Option, Some, None, refl, sym, ap, subst, ◌∙◌, arith, length-take}
use Rattle.std.specs.List.{flat_map}
use Rattle.std.proofs.lemmas.List.{length-append, length-map, length-take-le}
use Rattle.std.proofs.lemmas.List.Elements.{All-nil, All-cons, All-head, All-tail, All-append, All-take}
use Rattle.std.proofs.lemmas.Int.{ints, unsigned_abs-mul}
use Rattle.ct_vectors.specs.declared.limits.TheConstants.{COLUMN_LIMIT, COST_ROW_LIMIT, COST_LIMIT, RIGHT_LIMIT, MOVE_LIMIT, GRADE_LIMIT, JOB_GRADE_LIMIT, SESSION_LIMIT}
use Rattle.ct_vectors.specs.Vectors.{total}
use Rattle.ct_order.specs.Costs.{IsCostRow}
use Rattle.ct_order.specs.Order.{art_total_of, cost_of}
use Rattle.ct_instance.specs.Instance.{Problem, IsInstance, IsRight, IsPoint, column_count, grade_of, start_of}
use Rattle.ct_instance.specs.Fiber.{least_of}
use Rattle.ct_instance.specs.Answer.{Outcome, optimum, infeasible, costs_of, answer_of}
use Rattle.ct_instance.specs.TestSet.{test_list}
use Rattle.ct_instance.specs.Versions.{upto, level_of}
use Rattle.ct_instance.specs.Reach.{grade_after as next_grade, first_version_from, full_grade_up_to, reach_of}
use Rattle.ct_instance.proofs.Degree.{columns, total-le-grade, start_is_point}
use Rattle.ct_instance.proofs.Fiber.{least_in_fiber}
use Rattle.ct_instance.proofs.TestList.{is_test_list}
use Rattle.ct_instance.proofs.Points.{right-total, least_is_point, least-limit}
use Rattle.ct_walk.specs.Moves.{IsMoveList}
use Rattle.ct_walk.proofs.WalkFacts.{test_list_moves}
use Rattle.ct_checker.proofs.WithinLimits.{walk_within}
use Rattle.ct_levels.proofs.Bounds.{opened_within}
use Rattle.ct_levels.proofs.Covering.{first_version_is, first_is_version}
use Rattle.ct_levels.proofs.Full.{full_some, full_none, full_is_opened}
use Rattle.ct_levels.proofs.Reach.{reach_when_full, reach_when_room}
use Rattle.ct_input.specs.declared.script.Request.{Request}
use Rattle.ct_input.specs.declared.script.Request.TheVariants.{Ask, Solve}
use Rattle.ct_input.specs.declared.script.Phase.{Phase}
use Rattle.ct_input.specs.declared.script.Script.{Script}
use Rattle.ct_input.specs.Script.{right_of, IsRequest, IsPhase as IsScriptPhase, IsScript}
use Rattle.ct_version.specs.declared.answers.Answer.{Answer}
use Rattle.ct_version.specs.declared.answers.Answer.TheVariants.{Optimum, Infeasible}
use Rattle.ct_version.specs.declared.finished.Finished.{Finished}
use Rattle.ct_version.specs.declared.finished.Finished.TheVariants as told_levels
use Rattle.ct_version.specs.Answers.{outcome_seen}
use Rattle.ct_version.proofs.Walked.{start-grade}
use Rattle.ct_session.specs.declared.lines.Line.{Line}
use Rattle.ct_session.specs.declared.lines.Line.TheVariants.{Answered, NotYet, Full}
use Rattle.ct_session.specs.Lines.{IsWalkShown, IsAnsweredLine, IsFullOrAnswered}
use Rattle.ct_report.specs.declared.reports.PhaseReport.{PhaseReport}
use Rattle.ct_report.specs.declared.reports.Report.{Report}
use Rattle.ct_report.proofs.ReportMachine.{one_report}
use Rattle.ct_report.specs.Limits.{IsAnswer, IsWalk as HasWalk, IsLine, IsLevel, IsCount, IsPhase, IsReport}
use Rattle.ct_legal.specs.Cases.{Case, plain_case}
use Rattle.ct_legal.specs.Scripts.{phase_with_solves, with_solves, solved_sum, greatest, grade_after}
use Rattle.ct_legal.specs.Legal.{IsAsked, AreLegalLines, AreLegalSessions, IsLevelShown, AreLegalPhases, IsLegalServed, IsLegalAnswered}
use Rattle.ct_legal.proofs.Scripts.{solves_are_script}
use Rattle.ct_form.specs.Forms.{Form, given_in}
use Rattle.ct_form.specs.EqualityForms.{equal_of, right_for, cut_to, IsForm}
use Rattle.ct_form_report.specs.FormCases.{form_case}
use Rattle.ct_run.specs.Laws.{IsReadAs, CanBeTold}

-- ---- costs

times_both : (a b m : ℕ) → a ≤ m → a * b ≤ m * b
times_both a b m h = grind arith

abs_sum : (a b : ℤ) → nat_abs (a +ℤ b) ≤ nat_abs a + nat_abs b
abs_sum a b = omega (arith, ints)

-- the cost of a point is at most its sum times the limit of a cost
cost-limit : (row : List ℤ) (x : List ℕ) → All (λ c. nat_abs c ≤ COST_LIMIT) row → nat_abs (cost_of row x) ≤ COST_LIMIT * total x
cost-limit [] x costs = omega arith
cost-limit (c ∷ cs) [] costs = omega arith
cost-limit (c ∷ cs) (a ∷ x) costs =
    let later : nat_abs (cost_of cs x) ≤ COST_LIMIT * total x = cost-limit cs x (All-tail (λ d. nat_abs d ≤ COST_LIMIT) c cs costs) in
    let product : nat_abs (c *ℤ pos a) ≡ nat_abs c * a = unsigned_abs-mul c (pos a) in
    let most : nat_abs c * a ≤ COST_LIMIT * a = times_both (nat_abs c) a COST_LIMIT (All-head (λ d. nat_abs d ≤ COST_LIMIT) c cs costs) in
    let sum : nat_abs ((c *ℤ pos a) +ℤ cost_of cs x) ≤ nat_abs (c *ℤ pos a) + nat_abs (cost_of cs x) = abs_sum (c *ℤ pos a) (cost_of cs x) in
    omega arith

-- ---- points

total-take : (n : ℕ) (p : List ℕ) → total (take n p) ≤ total p
total-take zero p = omega arith
total-take (suc n) [] = omega arith
total-take (suc n) (x ∷ p) = let rest : total (take n p) ≤ total p = total-take n p in omega arith

total-drop : (n : ℕ) (p : List ℕ) → art_total_of n p ≤ total p
total-drop zero p = omega arith
total-drop (suc n) [] = omega arith
total-drop (suc n) (x ∷ p) = let rest : art_total_of n p ≤ total p = total-drop n p in omega arith

positive : (x : ℕ) → nat_eq x 0 ≡ false → 1 ≤ x
positive zero e = absurd (cc)
positive (suc x) e = omega arith

-- ---- outcomes

abbrev Fits : Outcome → Type 0
Fits (optimum x costs) =
    (1 ≤ length costs) × (length costs ≤ COST_ROW_LIMIT) × All (λ n. nat_abs n ≤ COST_LIMIT * JOB_GRADE_LIMIT) costs × (1 ≤ length x) × (length x ≤ COLUMN_LIMIT) × All (λ n. n ≤ GRADE_LIMIT) x
Fits (infeasible short) = (1 ≤ short) × (short ≤ GRADE_LIMIT)

either_fits : (test : Bool) (a b : Outcome) → Fits a → (test ≡ false → Fits b) → Fits (cond test a b)
either_fits true a b h k = h
either_fits false a b h k = k refl

answer_fits : (answer : Answer) → Fits (outcome_seen answer) → IsAnswer answer
answer_fits (Optimum point costs) h = h
answer_fits (Infeasible short) h = h

-- the costs of a point by all rows
costs-limit : (n : ℕ) (rows : List (List ℤ)) (x : List ℕ) → All (IsCostRow n) rows → total x ≤ GRADE_LIMIT → All (λ z. nat_abs z ≤ COST_LIMIT * JOB_GRADE_LIMIT) (map (λ row. cost_of row x) rows)
costs-limit n [] x are small = All-nil (λ z. nat_abs z ≤ COST_LIMIT * JOB_GRADE_LIMIT)
costs-limit n (row ∷ rows) x are small =
    let first : IsCostRow n row = All-head (IsCostRow n) row rows are in
    let limit : nat_abs (cost_of row x) ≤ COST_LIMIT * total x = cost-limit row x first.limit in
    All-cons (λ z. nat_abs z ≤ COST_LIMIT * JOB_GRADE_LIMIT) (cost_of row x) (map (λ r. cost_of r x) rows) (omega arith)
    (costs-limit n rows x (All-tail (IsCostRow n) row rows are) small)

length-costs : (rows : List (List ℤ)) (x : List ℕ) → length (map (λ row. cost_of row x) rows) ≡ length rows
length-costs [] x = refl
length-costs (row ∷ rows) x = ap suc (length-costs rows x)

-- ---- scripts

greatest-limit : (xs : List ℕ) → All (λ x. x ≤ GRADE_LIMIT) xs → greatest xs ≤ GRADE_LIMIT
greatest-limit [] all = omega arith
greatest-limit (x ∷ xs) all =
    let rest : greatest xs ≤ GRADE_LIMIT = greatest-limit xs (All-tail (λ y. y ≤ GRADE_LIMIT) x xs all) in
    let first : x ≤ GRADE_LIMIT = All-head (λ y. y ≤ GRADE_LIMIT) x xs all in
    omega arith

-- as many, each of them within the limits
record AreWithin (sessions : List (List Request)) (told : List (List Line)) : Type 0 where
  count : length told ≡ length sessions
  lines : All (All IsLine) told

record ArePhases (phases : List Phase) (told : List PhaseReport) : Type 0 where
  count : length told ≡ length phases
  each : All IsPhase told

module _ (i : Problem) (inst : IsInstance i) where
  -- what is told of a right-hand side within the limit is within the limits of reading
  outcome_fits : (b : List ℕ) → IsRight i b → All (λ x. x ≤ RIGHT_LIMIT) b → Fits (answer_of i b)
  outcome_fits b right small =
      let n : ℕ = column_count i in
      let p : List ℕ = least_of i b in
      let point : IsPoint i p = least_is_point i inst b right in
      let grade : grade_of i.columns p ≡ total b = ap total (least_in_fiber i inst b right).degree in
      let sum : total p ≤ GRADE_LIMIT = omega (arith, total-le-grade i.rows i.columns (columns i inst) p, grade, right-total i inst b right small) in
      let long : length (take n p) ≡ n = length-take-le n p (let e : length p ≡ n + i.rows = point in omega arith) in
      let front : total (take n p) ≤ GRADE_LIMIT = omega (arith, total-take n p, sum) in
      let back : art_total_of n p ≤ GRADE_LIMIT = omega (arith, total-drop n p, sum) in
      let many : length (costs_of i (take n p)) ≡ length i.cost_rows = length-costs i.cost_rows (take n p) in
      let first : Fits (optimum (take n p) (costs_of i (take n p))) = (
        omega (arith, many, inst.some_cost_row),
        omega (arith, many, inst.cost_row_limit),
        costs-limit n i.cost_rows (take n p) inst.is_cost_row front,
        omega (arith, long, inst.some_column),
        omega (arith, long, inst.column_limit),
        All-take (λ a. a ≤ GRADE_LIMIT) n p (least-limit i inst b right small),
      ) in
      either_fits (nat_eq (art_total_of n p) 0) (optimum (take n p) (costs_of i (take n p))) (infeasible (art_total_of n p)) first (λ e. (positive (art_total_of n p) e, back))

-- ---- cases

pub plain_can_be_told : (i : Problem) → IsInstance i → (limit : ℕ) → limit ≤ MOVE_LIMIT → (walks levels : Bool) → CanBeTold i.rows (plain_case i limit walks levels)
plain_can_be_told i inst limit most walks levels = record {
  instance = inst;
  limit = most;
  right = λ b asked. asked;
  shown = λ b asked answer is. answer_fits answer (subst Fits (sym is) (outcome_fits i inst b asked.right asked.limit));
}

cut_fits : (n : ℕ) → 1 ≤ n → (o : Outcome) → Fits o → Fits (cut_to n o)
cut_fits n some (optimum x costs) h = (
  h.0,
  h.1,
  h.2,
  omega (arith, some, h.3, length-take n x),
  omega (arith, h.4, length-take n x),
  All-take (λ a. a ≤ GRADE_LIMIT) n x h.5,
)
cut_fits n some (infeasible short) h = h

wide_right : (f : Form) → IsForm f → (b : List ℕ) → IsRequest f.rows (Solve b) → IsRequest (equal_of f).rows (Solve (right_for f b))
wide_right f form b asked = record {
  right = length-append b (given_in f.bounds) ∙ ap (λ k. k + length (given_in f.bounds)) asked.right;
  limit = All-append (λ x. x ≤ RIGHT_LIMIT) b (given_in f.bounds) asked.limit form.bound_limit;
}

pub form_can_be_told : (f : Form) → IsForm f → (limit : ℕ) → limit ≤ MOVE_LIMIT → (walks levels : Bool) (opened : ℕ) → CanBeTold f.rows (form_case f limit walks levels opened)
form_can_be_told f form limit most walks levels opened = record {
  instance = form.equal;
  limit = most;
  right = wide_right f form;
  shown = λ b asked answer is.
      let wide = wide_right f form b asked in
      answer_fits answer (subst Fits (sym is) (cut_fits (length f.columns) form.some_column (answer_of (equal_of f) (right_for f b)) (outcome_fits (equal_of f) form.equal (right_for f b) wide.right wide.limit)));
}

-- ---- reports

numbers_of : (m : ℕ) (request : Request) → IsRequest m request → IsRequest m (Solve (right_of request))
numbers_of m request is = record { right = is.right; limit = is.limit }

module _ (m : ℕ) (c : Case) (can : CanBeTold m c) where
  abbrev i : Problem
  i = c.instance

  inst : IsInstance i
  inst = can.instance

  abbrev limit : ℕ
  limit = c.limit

  sum-limit : (b : List ℕ) → IsRequest m (Solve b) → total (c.right b) ≤ GRADE_LIMIT
  sum-limit b asked = right-total i inst (c.right b) (can.right b asked).right (can.right b asked).limit

  -- ---- walks

  list_within : (g : ℕ) → g ≤ GRADE_LIMIT → length (test_list i g) ≤ limit → IsMoveList (record { instance = i; moves = test_list i g })
  list_within g small few =
      let is = is_test_list i inst g in
      record {
        instance = inst;
        moves = λ k d within. record {
          move = test_list_moves i g (test_list i g) is k d within;
          grade = omega (arith, (is.sound k d within).1, small);
        };
        most = omega (arith, few, can.limit);
      }

  walk_shown : (wanted : Bool) (b : List ℕ) → IsRight i b → All (λ x. x ≤ RIGHT_LIMIT) b → length (test_list i (total b)) ≤ limit → (walk : Option (List (ℕ × ℕ))) → IsWalkShown i wanted b walk → HasWalk walk
  walk_shown true b right small few (Some steps) is =
      walk_within (record { instance = i; moves = test_list i (total b) }) (list_within (total b) (right-total i inst b right small) few) (start_of i b) (least_of i b)
      (start_is_point i b right) (start-grade i inst b right small) steps is
  walk_shown true b right small few None is = absurd is
  walk_shown false b right small few (Some steps) is = absurd is
  walk_shown false b right small few None is = tt

  -- ---- lines

  answered_line : (b : List ℕ) → IsRequest m (Solve b) → full_grade_up_to i limit (total (c.right b)) ≡ None → (line : Line) → IsAnsweredLine i c.walks (c.shown b) (c.right b) line → IsLine line
  answered_line b asked room (Answered answer walk) is =
      let wide = can.right b asked in
      (can.shown b asked answer is.0, walk_shown c.walks (c.right b) wide.right wide.limit ((full_none i limit (total (c.right b))).0 room) walk is.1)
  answered_line b asked room (NotYet finished) is = absurd is
  answered_line b asked room (Full grade) is = absurd is

  solved_line : (b : List ℕ) → IsRequest m (Solve b) → (o : Option ℕ) → full_grade_up_to i limit (total (c.right b)) ≡ o → (line : Line) →
      IsFullOrAnswered o i c.walks (c.shown b) (c.right b) line → IsLine line
  solved_line b asked None at line is = answered_line b asked at line is
  solved_line b asked (Some f) at line is =
      let full = (full_some i limit (total (c.right b)) f).0 at in
      let some : 1 ≤ f = ((full_is_opened i inst limit f full.0).1).some in
      let within : IsLine (Full f) = (some, omega (arith, full.1, sum-limit b asked)) in
      subst IsLine (sym is) within

  asked_line : (floor low : ℕ) (b : List ℕ) → IsRequest m (Solve b) → (line : Line) → IsAsked c floor low b line → IsLine line
  asked_line floor low b asked (Answered answer walk) is = answered_line b asked is.0 (Answered answer walk) is.1
  asked_line floor low b asked (NotYet finished) is = let below : finished < total (c.right b) = is.below in omega (arith, below, sum-limit b asked)
  asked_line floor low b asked (Full grade) is = absurd is

  lines_within : (rs : List Request) (lines : List Line) (floor low : ℕ) → All (IsRequest m) rs → AreLegalLines c floor low rs lines → All IsLine lines
  lines_within [] [] floor low are legal = All-nil IsLine
  lines_within [] (line ∷ lines) floor low are legal = absurd legal
  lines_within (Ask b ∷ rs) [] floor low are legal = absurd legal
  lines_within (Solve b ∷ rs) [] floor low are legal = absurd legal
  lines_within (Ask b ∷ rs) (line ∷ lines) floor low are legal =
      let asked = numbers_of m (Ask b) (All-head (IsRequest m) (Ask b) rs are) in
      All-cons IsLine line lines (asked_line floor low b asked line legal.0) (lines_within rs lines _ _ (All-tail (IsRequest m) (Ask b) rs are) legal.1)
  lines_within (Solve b ∷ rs) (line ∷ lines) floor low are legal =
      let asked = All-head (IsRequest m) (Solve b) rs are in
      All-cons IsLine line lines (solved_line b asked (full_grade_up_to i limit (total (c.right b))) refl line legal.0)
      (lines_within rs lines _ _ (All-tail (IsRequest m) (Solve b) rs are) legal.1)

  sessions_within : (sessions : List (List Request)) (told : List (List Line)) (floor : ℕ) → All (λ rs. All (IsRequest m) rs) sessions → AreLegalSessions c floor sessions told → AreWithin sessions told
  sessions_within [] [] floor are legal = record { count = refl; lines = All-nil (All IsLine) }
  sessions_within [] (lines ∷ told) floor are legal = absurd legal
  sessions_within (rs ∷ sessions) [] floor are legal = absurd legal
  sessions_within (rs ∷ sessions) (lines ∷ told) floor are legal =
      let every : List Request → Type 0 = λ qs. All (IsRequest m) qs in
      let rest = sessions_within sessions told floor (All-tail every rs sessions are) legal.1 in
      record {
        count = ap suc rest.count;
        lines = All-cons (All IsLine) lines told (lines_within rs lines floor 0 (All-head every rs sessions are) legal.0) rest.lines;
      }

  -- ---- levels

  solved_sums : (rs : List Request) → All (IsRequest m) rs → All (λ x. x ≤ GRADE_LIMIT) (map (solved_sum c) rs)
  solved_sums [] are = All-nil (λ x. x ≤ GRADE_LIMIT)
  solved_sums (Ask b ∷ rs) are =
      All-cons (λ x. x ≤ GRADE_LIMIT) 0 (map (solved_sum c) rs) (omega arith) (solved_sums rs (All-tail (IsRequest m) (Ask b) rs are))
  solved_sums (Solve b ∷ rs) are =
      let asked = All-head (IsRequest m) (Solve b) rs are in
      All-cons (λ x. x ≤ GRADE_LIMIT) (total (c.right b)) (map (solved_sum c) rs) (sum-limit b asked) (solved_sums rs (All-tail (IsRequest m) (Solve b) rs are))

  all_sums : (sessions : List (List Request)) → All (λ rs. All (IsRequest m) rs) sessions → All (λ x. x ≤ GRADE_LIMIT) (flat_map (λ rs. map (solved_sum c) rs) sessions)
  all_sums [] are = All-nil (λ x. x ≤ GRADE_LIMIT)
  all_sums (rs ∷ sessions) are =
      let every : List Request → Type 0 = λ qs. All (IsRequest m) qs in
      All-append (λ x. x ≤ GRADE_LIMIT) (map (solved_sum c) rs) (flat_map (λ qs. map (solved_sum c) qs) sessions)
      (solved_sums rs (All-head every rs sessions are)) (all_sums sessions (All-tail every rs sessions are))

  grade-limit : (grade : ℕ) (phase : Phase) → grade ≤ GRADE_LIMIT → IsScriptPhase m phase → grade_after c grade phase ≤ GRADE_LIMIT
  grade-limit grade phase small is =
      let sums : greatest (flat_map (λ rs. map (solved_sum c) rs) phase.sessions) ≤ GRADE_LIMIT = greatest-limit (flat_map (λ rs. map (solved_sum c) rs) phase.sessions) (all_sums phase.sessions is.sessions) in
      omega (arith, is.target)

  reach-limit : (g l : ℕ) → g ≤ GRADE_LIMIT → (o : Option ℕ) → full_grade_up_to i limit g ≡ o → reach_of i limit g ≡ upto l → l ≤ JOB_GRADE_LIMIT
  reach-limit g l small (Some f) at is =
      let level : upto (f - 1) ≡ upto l = sym (reach_when_full i limit g f at) ∙ is in
      let same : f - 1 ≡ l = cc in
      omega (arith, ((full_some i limit g f).0 at).1)
  reach-limit g l small None at is =
      let k : ℕ = first_version_from i g in
      let first = first_is_version i g k (first_version_is i g) in
      let level : level_of i k ≡ upto l = sym (reach_when_room i limit g at) ∙ is in
      let next : l + 1 ≤ JOB_GRADE_LIMIT = opened_within i inst k (l + 1) first.0 (omega (arith, first.1, small)) (ap next_grade level) in
      omega arith

  level_within : (wanted : Bool) (g : ℕ) → g ≤ GRADE_LIMIT → (level : Option Finished) → IsLevelShown wanted (reach_of i limit g) level → IsLevel level
  level_within true g small (Some (told_levels.Upto l)) is = reach-limit g l small (full_grade_up_to i limit g) refl (sym is)
  level_within true g small (Some told_levels.All) is = tt
  level_within true g small None is = absurd is
  level_within false g small (Some level) is = absurd is
  level_within false g small None is = tt

  -- ---- phases

  phases_within : (phases : List Phase) (told : List PhaseReport) (grade : ℕ) → grade ≤ GRADE_LIMIT → All (IsScriptPhase m) phases → AreLegalPhases c grade phases told → ArePhases phases told
  phases_within [] [] grade small are legal = record { count = refl; each = All-nil IsPhase }
  phases_within [] (one ∷ told) grade small are legal = absurd legal
  phases_within (phase ∷ phases) [] grade small are legal = absurd legal
  phases_within (phase ∷ phases) (one ∷ told) grade small are legal =
      let first : IsScriptPhase m phase = All-head (IsScriptPhase m) phase phases are in
      let next : grade_after c grade phase ≤ GRADE_LIMIT = grade-limit grade phase small first in
      let sessions = sessions_within phase.sessions one.sessions _ first.sessions legal.0 in
      let rest = phases_within phases told (grade_after c grade phase) next (All-tail (IsScriptPhase m) phase phases are) legal.2 in
      let here : IsPhase one = record {
        count = omega (arith, sessions.count, first.few);
        sessions = sessions.lines;
        level = level_within c.levels (grade_after c grade phase) next one.level legal.1;
      } in
      record { count = ap suc rest.count; each = All-cons IsPhase one told here rest.each }

  legal_is_report : (script : Script) (report : Report) → IsScript m script → IsCount (length script.phases) → IsLegalServed c script report → IsReport report
  legal_is_report script report is count legal =
      let told = phases_within script.phases report.phases 0 (omega arith) is legal in
      record { count = subst IsCount (sym told.count) count; phases = told.each }

  -- no other report has its text
  pub served_is_read : (script : Script) → IsScript m script → IsCount (length script.phases) → (report : Report) → IsLegalServed c script report → IsReadAs report
  served_is_read script is count report legal =
      let within = legal_is_report script report is count legal in
      record { within = within; only = λ other there same. one_report other report there within same }

  pub answered_is_read : (script : Script) → IsScript m script → IsCount (length script.phases) → (report : Report) → IsLegalAnswered c script report → IsReadAs report
  answered_is_read script is count report legal =
      served_is_read (with_solves script) (solves_are_script m script is) (subst IsCount (sym (length-map script.phases phase_with_solves)) count) report legal
