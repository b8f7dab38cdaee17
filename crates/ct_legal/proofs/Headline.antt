-- Each line of a legal report is true of its request.
use Rattle.std.proofs.Common.{ℕ, ◌≤◌, ◌<◌, ◌≡◌, max, Bool, true, false, List, [], ◌∷◌, length, All, Option, Some, None, refl, sym, subst, arith}
use Rattle.std.specs.List.{AllZip}
use Rattle.std.proofs.lemmas.List.Elements.{All-head, All-tail}
use Rattle.ct_vectors.specs.Vectors.{total}
use Rattle.ct_instance.specs.Instance.{Problem, IsInstance, IsRight}
use Rattle.ct_instance.specs.Fiber.{least_of}
use Rattle.ct_instance.specs.Answer.{answer_of}
use Rattle.ct_instance.specs.TestSet.{Binomial, test_list}
use Rattle.ct_instance.specs.Versions.{Level, Covers}
use Rattle.ct_instance.specs.Reach.{full_grade_up_to, reach_of}
use Rattle.ct_instance.proofs.Answer.{answer_is_optimum, answer_is_short, short_has_no_solution}
use Rattle.ct_instance.proofs.Fiber.{least_is_least}
use Rattle.ct_instance.proofs.TestList.{is_test_list, test_lists}
use Rattle.ct_levels.proofs.Full.{full_some, full_none}
use Rattle.ct_levels.proofs.Reach.{reach_covers, reach_rises}
use Rattle.ct_input.specs.declared.script.Request.{Request}
use Rattle.ct_input.specs.declared.script.Request.TheVariants.{Ask, Solve}
use Rattle.ct_input.specs.declared.script.Phase.{Phase}
use Rattle.ct_input.specs.Script.{right_of, IsRequest, IsPhase}
use Rattle.ct_version.specs.declared.answers.Answer.{Answer}
use Rattle.ct_version.specs.declared.answers.Answer.TheVariants.{Optimum, Infeasible}
use Rattle.ct_version.specs.declared.finished.Finished.{Finished}
use Rattle.ct_version.specs.Answers.{outcome_seen}
use Rattle.ct_session.specs.declared.lines.Line.{Line}
use Rattle.ct_session.specs.declared.lines.Line.TheVariants.{Answered, NotYet, Full}
use Rattle.ct_session.specs.Lines.{IsWalkShown, IsFullOrAnswered}
use Rattle.ct_report.specs.declared.reports.PhaseReport.{PhaseReport}
use Rattle.ct_legal.specs.Cases.{Case, plain_case, sum_of}
use Rattle.ct_legal.specs.Scripts.{with_solves, grade_after}
use Rattle.ct_legal.specs.Legal.{IsAsked, low_after, AreLegalLines, AreLegalSessions, IsLevelShown, AreLegalPhases}
use Rattle.ct_legal.proofs.Scripts.{solves_are_script}
use Rattle.ct_legal.specs.Headline.{SaysRight, IsWalkTold, HasRoom, IsFirstFull, IsTrueLine, low_told, AreTrueLines, IsLevelTold, AreTruePhases, ServedIsTrue, AnsweredIsTrue}

-- The instance has a right-hand side for each list of m numbers, and what the case shows of them is what an answer says.
pub record SaysAsShown (m : ℕ) (c : Case) (Says : List ℕ → Answer → Type 0) : Type 0 where
  pub instance : IsInstance c.instance
  pub right : (b : List ℕ) → length b ≡ m → IsRight c.instance (c.right b)
  pub says : (b : List ℕ) → length b ≡ m → (answer : Answer) → outcome_seen answer ≡ c.shown b → Says b answer

module _ (m : ℕ) (c : Case) (Says : List ℕ → Answer → Type 0) (h : SaysAsShown m c Says) where
  abbrev i : Problem
  i = c.instance

  abbrev inst : IsInstance i
  inst = h.instance

  abbrev limit : ℕ
  limit = c.limit

  abbrev IsTrue : ℕ → Request → Line → Type 0
  IsTrue low request line = IsTrueLine i c.right Says limit c.walks c.levels low request line

  abbrev AreTrue : ℕ → List Request → List Line → Type 0
  AreTrue low requests lines = AreTrueLines i c.right Says limit c.walks c.levels low requests lines

  -- ---- walks

  walk_told : (wanted : Bool) (b : List ℕ) → IsRight i b → (walk : Option (List (ℕ × ℕ))) → IsWalkShown i wanted b walk → IsWalkTold i wanted b walk
  walk_told true b right (Some steps) is = record {
    moves = test_list i (total b);
    test = is_test_list i inst (total b);
    end = least_of i b;
    walk = is;
    least = least_is_least i inst b right;
  }
  walk_told true b right None is = absurd is
  walk_told false b right (Some steps) is = absurd is
  walk_told false b right None is = tt

  -- ---- the limit

  has_room : (g : ℕ) → length (test_list i g) ≤ limit → HasRoom i limit g
  has_room g few moves test = subst (λ (ms : List Binomial). length ms ≤ limit) (sym ((test_lists i inst g moves).1 test)) few

  first_full : (g f : ℕ) → full_grade_up_to i limit g ≡ Some f → (f ≤ g) × IsFirstFull i limit f
  first_full g f at =
      let is = (full_some i limit g f).0 at in
      let more : limit < length (test_list i f) = (is.0).more in (
        is.1,
        record {
          full = λ room. let few : length (test_list i f) ≤ limit = room (test_list i f) (is_test_list i inst f) in omega (arith, more, few);
          first = λ h below. has_room h ((is.0).first h below);
        },
      )

  -- ---- lines

  asked_true : (floor low : ℕ) (b : List ℕ) → length b ≡ m → (line : Line) → IsAsked c floor low b line → IsTrue low (Ask b) line
  asked_true floor low b right (Answered answer walk) is =
      (has_room (sum_of c b) ((full_none i limit (sum_of c b)).0 is.0), h.says b right answer (is.1).0, walk_told c.walks (c.right b) (h.right b right) walk (is.1).1)
  asked_true floor low b right (NotYet f) is = (is.rises, is.below)
  asked_true floor low b right (Full g) is = absurd is

  solved_true : (low : ℕ) (b : List ℕ) → length b ≡ m → (full : Option ℕ) → full_grade_up_to i limit (sum_of c b) ≡ full → (line : Line) →
      IsFullOrAnswered full i c.walks (c.shown b) (c.right b) line → IsTrue low (Solve b) line
  solved_true low b right (Some f) at line is = subst (IsTrue low (Solve b)) (sym is) (first_full (sum_of c b) f at)
  solved_true low b right None at (Answered answer walk) is =
      (has_room (sum_of c b) ((full_none i limit (sum_of c b)).0 at), h.says b right answer is.0, walk_told c.walks (c.right b) (h.right b right) walk is.1)
  solved_true low b right None at (NotYet f) is = absurd is
  solved_true low b right None at (Full g) is = absurd is

  low_same : (low : ℕ) (request : Request) (line : Line) → low_after c low (right_of request) line ≡ low_told c.right low request line
  low_same low request (Answered answer walk) = refl
  low_same low request (NotYet f) = refl
  low_same low request (Full g) = refl

  lines_true : (requests : List Request) (lines : List Line) (floor low : ℕ) → All (IsRequest m) requests → AreLegalLines c floor low requests lines → AreTrue low requests lines
  lines_true [] [] floor low are legal = tt
  lines_true [] (line ∷ lines) floor low are legal = absurd legal
  lines_true (Ask b ∷ requests) [] floor low are legal = absurd legal
  lines_true (Solve b ∷ requests) [] floor low are legal = absurd legal
  lines_true (Ask b ∷ requests) (line ∷ lines) floor low are legal =
      let first : IsRequest m (Ask b) = All-head (IsRequest m) (Ask b) requests are in
      let later = lines_true requests lines floor (low_after c low b line) (All-tail (IsRequest m) (Ask b) requests are) legal.1 in
      (asked_true floor low b first.right line legal.0, subst (λ (l : ℕ). AreTrue l requests lines) (low_same low (Ask b) line) later)
  lines_true (Solve b ∷ requests) (line ∷ lines) floor low are legal =
      let first : IsRequest m (Solve b) = All-head (IsRequest m) (Solve b) requests are in
      let later = lines_true requests lines (max floor (sum_of c b)) (low_after c low b line) (All-tail (IsRequest m) (Solve b) requests are) legal.1 in (
        solved_true low b first.right (full_grade_up_to i limit (sum_of c b)) refl line legal.0,
        subst (λ (l : ℕ). AreTrue l requests lines) (low_same low (Solve b) line) later,
      )

  -- ---- sessions and phases

  abbrev every : List Request → Type 0
  every requests = All (IsRequest m) requests

  sessions_true : (sessions : List (List Request)) (told : List (List Line)) (floor : ℕ) → All every sessions → AreLegalSessions c floor sessions told → AllZip (AreTrue 0) sessions told
  sessions_true [] [] floor are legal = tt
  sessions_true [] (lines ∷ told) floor are legal = absurd legal
  sessions_true (requests ∷ sessions) [] floor are legal = absurd legal
  sessions_true (requests ∷ sessions) (lines ∷ told) floor are legal =
      (lines_true requests lines floor 0 (All-head every requests sessions are) legal.0, sessions_true sessions told floor (All-tail every requests sessions are) legal.1)

  level_told : (wanted : Bool) (target g : ℕ) → target ≤ g → (level : Option Finished) → IsLevelShown wanted (reach_of i limit g) level → IsLevelTold i limit wanted target level
  level_told true target g below (Some finished) is = λ room.
      let none = (full_none i limit target).1 (room (test_list i target) (is_test_list i inst target)) in
      let covers = reach_rises i inst limit target g target below ((reach_covers i inst limit target).1 none) in
      subst (λ (l : Level). Covers l target) (sym is) covers
  level_told true target g below None is = absurd is
  level_told false target g below (Some finished) is = absurd is
  level_told false target g below None is = tt

  pub phases_true : (phases : List Phase) (told : List PhaseReport) (grade : ℕ) → All (IsPhase m) phases → AreLegalPhases c grade phases told →
      AreTruePhases i c.right Says limit c.walks c.levels phases told
  phases_true [] [] grade are legal = tt
  phases_true [] (one ∷ told) grade are legal = absurd legal
  phases_true (phase ∷ phases) [] grade are legal = absurd legal
  phases_true (phase ∷ phases) (one ∷ told) grade are legal =
      let first : IsPhase m phase = All-head (IsPhase m) phase phases are in
      let below : phase.target ≤ grade_after c grade phase = omega arith in (
        (sessions_true phase.sessions one.sessions (max c.opened grade) first.sessions legal.0, level_told c.levels phase.target (grade_after c grade phase) below one.level legal.1),
        phases_true phases told (grade_after c grade phase) (All-tail (IsPhase m) phase phases are) legal.2,
      )

-- ---- an instance that is asked for its own right-hand sides

says_right : (i : Problem) → IsInstance i → (b : List ℕ) → IsRight i b → (answer : Answer) → outcome_seen answer ≡ answer_of i b → SaysRight i b answer
says_right i inst b right (Optimum x costs) same = (answer_is_optimum i inst b right x costs).0 (sym same)
says_right i inst b right (Infeasible short) same =
    let is = (answer_is_short i inst b right short).0 (sym same) in
    (is, short_has_no_solution i b short is)

plain_says : (i : Problem) → IsInstance i → (most : ℕ) (walks levels : Bool) → SaysAsShown i.rows (plain_case i most walks levels) (SaysRight i)
plain_says i inst most walks levels = record { instance = inst; right = λ b right. right; says = says_right i inst }

pub served_is_true : ServedIsTrue
served_is_true i inst limit walks levels script is report legal =
    phases_true i.rows (plain_case i limit walks levels) (SaysRight i) (plain_says i inst limit walks levels) script.phases report.phases 0 is legal

pub answered_is_true : AnsweredIsTrue
answered_is_true i inst limit walks levels script is report legal = served_is_true i inst limit walks levels (with_solves script) (solves_are_script i.rows script is) report legal
