-- What holds of boxes. Each statement is the contract of a function in the module `laws`.
use Rattle.std.specs.Prelude.{ℕ, ◌≤◌, ◌<◌, ◌≡◌, ◌↔◌, Option, Some, None, List, [], ◌++◌, length, AllPairs, Contains, suc}
use Rattle.ct_vectors.specs.Vectors.{total, Divides}
use Rattle.ct_instance.specs.declared.jobs.Job.{Job}
use Rattle.ct_instance.specs.Instance.{Problem, IsInstance, IsPoint, IsRight, grade_of, start_of}
use Rattle.ct_instance.specs.Fiber.{least_of}
use Rattle.ct_instance.specs.TestSet.{Binomial, ComesBefore}
use Rattle.ct_instance.specs.Walk.{AreMoves, IsWalk, IsWalkEnd}
use Rattle.ct_instance.specs.Jobs.{IsJob, job_degree_of, job_grade_of, first_end_of, second_end_of, IsCoprime}
use Rattle.ct_instance.specs.Versions.{least_above}
use Rattle.ct_walk.specs.Laws.{HasOneNormalPoint, AreJoined}
use Rattle.ct_levels.specs.Levels.{job_grades}
use Rattle.ct_completion.specs.Remainders.{AreRemainders, points_of, IsGroupMove}
use Rattle.ct_box.specs.Box.{box_list, box_list_to, box_jobs_at, IsBoxList, IsBoxFullGrade, box_full_grade}
use Rattle.ct_box.specs.Completing.{IsBoxState, IsBoxStep, IsBeyond, IsBoxDone}

-- ---- critical pairs

-- where each job within the bound that isn't a coprime pair has its ends led to one point, each fiber within the bound
-- has exactly one point that no head divides, and it is the least
abbrev pub BoxLemma : Type 0
BoxLemma =
    (i : Problem) → IsInstance i → (top : List ℕ) (ms : List Binomial) → AreMoves i ms →
    ((j : Job) → IsJob i ms j → Divides (job_degree_of i ms j) top → (IsCoprime ms j → ⊥) → AreJoined ms (first_end_of i ms j) (second_end_of i ms j)) →
    (b : List ℕ) → IsRight i b → Divides b top → HasOneNormalPoint i ms b

-- ---- the list

-- the box up to a grade is what it is said to be, and the only such list
abbrev pub BoxListIsOne : Type 0
BoxListIsOne = (i : Problem) → IsInstance i → (top : List ℕ) (g : ℕ) (ms : List Binomial) → (ms ≡ box_list_to i top g) ↔ IsBoxList i top g ms

-- up to the sum of the bound it is the whole box
abbrev pub BoxEndsAtSum : Type 0
BoxEndsAtSum = (i : Problem) → IsInstance i → (top : List ℕ) (g : ℕ) → total top ≤ g → box_list_to i top g ≡ box_list i top

-- up to grade 0 it is empty
abbrev pub BoxStarts : Type 0
BoxStarts = (i : Problem) → IsInstance i → (top : List ℕ) → IsBoxList i top 0 []

-- no job within the bound has a grade above d and up to g
abbrev pub NoBoxJobBetween : Problem → List ℕ → List Binomial → ℕ → ℕ → Type 0
NoBoxJobBetween i top ms d g = (j : Job) → IsJob i ms j → Divides (job_degree_of i ms j) top → d < job_grade_of i ms j → job_grade_of i ms j ≤ g → ⊥

-- it stays the same up to the next grade of a job within the bound
abbrev pub BoxOpens : Type 0
BoxOpens =
    (i : Problem) → IsInstance i → (top : List ℕ) (d g : ℕ) (ms : List Binomial) → d ≤ g → IsBoxList i top d ms → NoBoxJobBetween i top ms d g →
    IsBoxList i top g ms

-- and the remainders of the jobs of a grade within the bound give what the grade adds
abbrev pub BoxGrows : Type 0
BoxGrows =
    (i : Problem) → IsInstance i → (top : List ℕ) (g : ℕ) (ms : List Binomial) → IsBoxList i top g ms →
    (remainders : List (Option (List ℕ × List ℕ))) → AreRemainders i ms (box_jobs_at i top ms (suc g)) remainders →
    (new : List Binomial) → ((m : Binomial) → Contains new m ↔ IsGroupMove i (points_of remainders) m) → AllPairs (λ m n. ComesBefore i m.head n.head) new →
    IsBoxList i top (suc g) (ms ++ new)

-- ---- walks

-- for each right-hand side within the bound the walk by the box ends at the least point
abbrev pub BoxWalkEndsAtLeast : Type 0
BoxWalkEndsAtLeast =
    (i : Problem) → IsInstance i → (top b : List ℕ) → IsRight i b → Divides b top → (q : List ℕ) → IsWalkEnd (box_list i top) (start_of i b) q →
    q ≡ least_of i b

-- a point of grade at most g walks by the whole box as by its moves of grade at most g
abbrev pub BoxWalksStay : Type 0
BoxWalksStay =
    (i : Problem) → IsInstance i → (top : List ℕ) (g : ℕ) (p : List ℕ) → IsPoint i p → grade_of i.columns p ≤ g →
    (steps : List (ℕ × ℕ)) (q : List ℕ) → IsWalk (box_list i top) p steps q ↔ IsWalk (box_list_to i top g) p steps q

-- ---- the box full grade

abbrev pub BoxFullGradeIsFound : Type 0
BoxFullGradeIsFound = (i : Problem) → IsInstance i → (top : List ℕ) (limit f : ℕ) → (box_full_grade i top limit ≡ Some f) ↔ IsBoxFullGrade i top limit f

-- there is none exactly where the whole box is within the limit
abbrev pub NoBoxFullGrade : Type 0
NoBoxFullGrade = (i : Problem) → IsInstance i → (top : List ℕ) (limit : ℕ) → (box_full_grade i top limit ≡ None) ↔ (length (box_list i top) ≤ limit)

-- ---- completing

abbrev pub BoxBegins : Type 0
BoxBegins = (i : Problem) → IsInstance i → (top : List ℕ) (limit : ℕ) → IsBoxState i top limit 0 []

abbrev pub BoxEnds : Type 0
BoxEnds =
    (i : Problem) → IsInstance i → (top : List ℕ) (limit last : ℕ) (ms : List Binomial) → IsBoxState i top limit last ms →
    IsBeyond (total top) (least_above last (job_grades i ms)) → IsBoxDone i top limit ms None

abbrev pub BoxSteps : Type 0
BoxSteps =
    (i : Problem) → IsInstance i → (top : List ℕ) (limit last d : ℕ) (ms new : List Binomial) → IsBoxState i top limit last ms →
    IsBoxStep i top last d ms new → length (ms ++ new) ≤ limit → IsBoxState i top limit d (ms ++ new)

abbrev pub BoxFills : Type 0
BoxFills =
    (i : Problem) → IsInstance i → (top : List ℕ) (limit last d : ℕ) (ms new : List Binomial) → IsBoxState i top limit last ms →
    IsBoxStep i top last d ms new → limit < length (ms ++ new) → IsBoxDone i top limit ms (Some d)

-- what a completion ends with names the box full grade
abbrev pub DoneNamesFullGrade : Type 0
DoneNamesFullGrade =
    (i : Problem) → IsInstance i → (top : List ℕ) (limit : ℕ) (ms : List Binomial) (full : Option ℕ) → IsBoxDone i top limit ms full →
    full ≡ box_full_grade i top limit

-- and its moves walk below that grade as the whole box does
abbrev pub DoneWalksAsBox : Type 0
DoneWalksAsBox =
    (i : Problem) → IsInstance i → (top : List ℕ) (limit : ℕ) (ms : List Binomial) (full : Option ℕ) → IsBoxDone i top limit ms full →
    (p : List ℕ) → IsPoint i p → ((f : ℕ) → full ≡ Some f → grade_of i.columns p < f) →
    (steps : List (ℕ × ℕ)) (q : List ℕ) → IsWalk ms p steps q ↔ IsWalk (box_list i top) p steps q
