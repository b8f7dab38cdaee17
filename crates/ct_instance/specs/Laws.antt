-- What holds of fibers, answers and test heads. Each statement is the contract of a function in the module `laws`.
use Rattle.std.specs.Prelude.{ℕ, ℤ, ◌+◌, ◌*◌, length, ◌≤◌, ◌≡◌, ◌↔◌, true, List, ◌++◌, Contains, AllPairs}
use Rattle.ct_vectors.specs.Vectors.{zeros, Divides, divides, Disjoint}
use Rattle.ct_order.specs.Order.{art_total_of}
use Rattle.ct_instance.specs.Instance.{Problem, IsInstance, IsPoint, IsRight, column_count, degree_of}
use Rattle.ct_instance.specs.Fiber.{fiber_of, least_of, IsInFiber, IsBelow, IsLeast}
use Rattle.ct_instance.specs.Answer.{IsSolution, costs_of, optimum, infeasible, answer_of}
use Rattle.ct_instance.specs.TestSet.{Binomial, IsImprovable, is_improvable, IsTestHead, is_test_head, test_list, IsTestList}
use Rattle.ct_instance.specs.declared.jobs.Job.{Job}
use Rattle.ct_instance.specs.Jobs.{IsJob, JobComesBefore, is_same_job, IsEarlierJob, job_grade_of, all_jobs, jobs_at, jobs_up_to}

-- ---- fibers

-- the listed fiber has exactly the points of its degree
abbrev pub FiberIsListed : Type 0
FiberIsListed = (i : Problem) → IsInstance i → (b : List ℕ) → IsRight i b → (p : List ℕ) → Contains (fiber_of i.columns b) p ↔ IsInFiber i b p

-- the least point is in the fiber and below every other point of it, and is the only such point
abbrev pub LeastPointIsLeast : Type 0
LeastPointIsLeast = (i : Problem) → IsInstance i → (b : List ℕ) → IsRight i b → (p : List ℕ) → (p ≡ least_of i b) ↔ IsLeast i b p

-- ---- solutions and answers

-- x is a solution exactly where x with no artificials is in the fiber
abbrev pub SolutionsAreInFibers : Type 0
SolutionsAreInFibers = (i : Problem) (b x : List ℕ) → IsSolution i b x ↔ IsInFiber i b (x ++ zeros i.rows)

-- x is a solution that is below every other solution, and these are its costs
pub record IsOptimum (i : Problem) (b x : List ℕ) (costs : List ℤ) : Type 0 where
  pub solution : IsSolution i b x
  pub below : (z : List ℕ) → IsSolution i b z → (z ≡ x → ⊥) → IsBelow i (x ++ zeros i.rows) (z ++ zeros i.rows)
  pub paid : costs ≡ costs_of i x

-- s is the smallest artificial total in the fiber, and isn't 0
pub record IsShort (i : Problem) (b : List ℕ) (s : ℕ) : Type 0 where
  pub some : 1 ≤ s
  pub point : List ℕ
  pub member : IsInFiber i b point
  pub reached : art_total_of (column_count i) point ≡ s
  pub smallest : (q : List ℕ) → IsInFiber i b q → s ≤ art_total_of (column_count i) q

-- the answer is the unique least solution with its costs
abbrev pub AnswerIsLeastSolution : Type 0
AnswerIsLeastSolution =
    (i : Problem) → IsInstance i → (b : List ℕ) → IsRight i b → (x : List ℕ) (costs : List ℤ) → (answer_of i b ≡ optimum x costs) ↔ IsOptimum i b x costs

-- and where it is none, it says how far from 0 the artificial total stays
abbrev pub AnswerIsShort : Type 0
AnswerIsShort = (i : Problem) → IsInstance i → (b : List ℕ) → IsRight i b → (s : ℕ) → (answer_of i b ≡ infeasible s) ↔ IsShort i b s

-- which is so exactly where there is no solution
abbrev pub ShortHasNoSolution : Type 0
ShortHasNoSolution =
    (i : Problem) → IsInstance i → (b : List ℕ) → IsRight i b → ((x : List ℕ) → IsSolution i b x → ⊥) ↔ ((s : ℕ) × IsShort i b s)

-- ---- tests

abbrev pub SameJobIsTested : Type 0
SameJobIsTested = (j k : Job) → (is_same_job j k ≡ true) ↔ (j ≡ k)

abbrev pub ImprovableIsTested : Type 0
ImprovableIsTested = (i : Problem) → IsInstance i → (p : List ℕ) → IsPoint i p → (is_improvable i p ≡ true) ↔ IsImprovable i p

abbrev pub TestHeadIsTested : Type 0
TestHeadIsTested = (i : Problem) → IsInstance i → (p : List ℕ) → IsPoint i p → (is_test_head i p ≡ true) ↔ IsTestHead i p

-- improvable means not the least of its fiber
abbrev pub ImprovableIsNotLeast : Type 0
ImprovableIsNotLeast = (i : Problem) → IsInstance i → (p : List ℕ) → IsPoint i p → IsImprovable i p ↔ (IsLeast i (degree_of i.columns p) p → ⊥)

-- one list divides another by the test exactly where it is at most the other in each coordinate
abbrev pub DividesIsTested : Type 0
DividesIsTested = (h p : List ℕ) → (divides h p ≡ true) ↔ Divides h p

-- ---- test heads

-- a point is improvable exactly where a test head divides it
abbrev pub ImprovableAboveTestHead : Type 0
ImprovableAboveTestHead =
    (i : Problem) → IsInstance i → (p : List ℕ) → IsPoint i p → IsImprovable i p ↔ ((h : List ℕ) × IsTestHead i h × Divides h p)

-- no other improvable point divides a test head
abbrev pub TestHeadIsMinimal : Type 0
TestHeadIsMinimal = (i : Problem) (p h : List ℕ) → IsTestHead i p → IsPoint i h → IsImprovable i h → Divides h p → h ≡ p

-- a test head and the least point of its fiber share no variable
abbrev pub TestMoveIsDisjoint : Type 0
TestMoveIsDisjoint = (i : Problem) → IsInstance i → (h t : List ℕ) → IsTestHead i h → IsLeast i (degree_of i.columns h) t → Disjoint h t

-- ---- test lists

-- the test list of g is sound, complete and in order, and is the only such list
abbrev pub TestListIsOne : Type 0
TestListIsOne = (i : Problem) → IsInstance i → (g : ℕ) (ms : List Binomial) → (ms ≡ test_list i g) ↔ IsTestList i g ms

-- the test list of a greater grade begins with it
abbrev pub TestListsGrow : Type 0
TestListsGrow = (i : Problem) (g h : ℕ) → g ≤ h → (more : List Binomial) × (test_list i h ≡ test_list i g ++ more)

-- ---- jobs

-- the listed jobs are the jobs of the list of moves, each before all later ones in the order of one grade
abbrev pub JobsAreListed : Type 0
JobsAreListed = (i : Problem) (ms : List Binomial) → ((j : Job) → Contains (all_jobs i ms) j ↔ IsJob i ms j) × AllPairs JobComesBefore (all_jobs i ms)

-- and those of one grade are the jobs of that grade
abbrev pub JobsOfGradeAreListed : Type 0
JobsOfGradeAreListed =
    (i : Problem) (ms : List Binomial) (g : ℕ) →
    ((j : Job) → Contains (jobs_at i ms g) j ↔ (IsJob i ms j × (job_grade_of i ms j ≡ g))) × AllPairs JobComesBefore (jobs_at i ms g)

-- those up to a grade are the jobs of at most that grade, by grade first
abbrev pub JobsUpToAreListed : Type 0
JobsUpToAreListed =
    (i : Problem) (ms : List Binomial) (g : ℕ) →
    ((j : Job) → Contains (jobs_up_to i ms g) j ↔ (IsJob i ms j × (job_grade_of i ms j ≤ g))) × AllPairs (IsEarlierJob i ms) (jobs_up_to i ms g)

-- how many jobs there are: the columns, and each two moves once
abbrev pub JobsAreCounted : Type 0
JobsAreCounted = (i : Problem) (ms : List Binomial) → 2 * length (all_jobs i ms) + length ms ≡ 2 * column_count i + length ms * length ms
