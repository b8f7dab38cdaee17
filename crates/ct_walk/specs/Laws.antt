-- What holds of steps and walks by a list of moves. Each statement is the contract of a function in the module `laws`.
use Rattle.std.specs.Prelude.{ℕ, ◌≤◌, ◌≡◌, ◌⊎◌, List, map, get_or, Contains, ◌↔◌}
use Rattle.ct_vectors.specs.Vectors.{total, add, Divides}
use Rattle.ct_instance.specs.declared.jobs.Job.{Job}
use Rattle.ct_instance.specs.Instance.{Problem, IsInstance, IsPoint, IsRight, degree_of, grade_of}
use Rattle.ct_instance.specs.Fiber.{IsInFiber, IsBelow, IsLeast}
use Rattle.ct_instance.specs.TestSet.{Binomial, IsTestHead, IsTestList}
use Rattle.ct_instance.specs.Walk.{IsMove, AreMoves, IsNormal, FreeStep, Leads, IsStep, IsWalk, IsWalkEnd}
use Rattle.ct_instance.specs.Jobs.{IsJob, job_degree_of, first_end_of, second_end_of, IsCoprime}
use Rattle.ct_walk.specs.Moves.{Follows}

-- ---- steps

-- the head of a move isn't zero
abbrev pub HeadIsPositive : Type 0
HeadIsPositive = (i : Problem) → IsInstance i → (m : Binomial) → IsMove i m → 1 ≤ total m.head

-- q is another point of the fiber of p, and lower
pub record GoesDown (i : Problem) (p q : List ℕ) : Type 0 where
  pub member : IsInFiber i (degree_of i.columns p) q
  pub below : IsBelow i q p

abbrev pub FreeStepsGoDown : Type 0
FreeStepsGoDown = (i : Problem) (ms : List Binomial) → AreMoves i ms → (p q : List ℕ) → IsPoint i p → FreeStep ms p q → GoesDown i p q

-- what is led to is in the fiber, and is the point itself or below it
pub record StaysOrGoesDown (i : Problem) (p q : List ℕ) : Type 0 where
  pub member : IsInFiber i (degree_of i.columns p) q
  pub down : (q ≡ p) ⊎ IsBelow i q p

abbrev pub LeadsDown : Type 0
LeadsDown = (i : Problem) (ms : List Binomial) → AreMoves i ms → (p q : List ℕ) → IsPoint i p → Leads ms p q → StaysOrGoesDown i p q

-- what leads from p to q leads from p + r to q + r
abbrev pub LeadsKeepsSums : Type 0
LeadsKeepsSums =
    (i : Problem) (ms : List Binomial) → AreMoves i ms → (p q r : List ℕ) → IsPoint i p → IsPoint i r → Leads ms p q → Leads ms (add p r) (add q r)

-- a list that has all moves of another leads as it does
abbrev pub LeadsByMore : Type 0
LeadsByMore = (ms ns : List Binomial) → ((m : Binomial) → Contains ms m → Contains ns m) → (p q : List ℕ) → Leads ms p q → Leads ns p q

-- no coordinate exceeds the grade on the way
abbrev pub CoordinatesStayWithin : Type 0
CoordinatesStayWithin =
    (i : Problem) → IsInstance i → (ms : List Binomial) → AreMoves i ms → (p q : List ℕ) → IsPoint i p → Leads ms p q → (k : ℕ) → get_or q k 0 ≤ grade_of i.columns p

-- ---- walks

abbrev pub StepIsFree : Type 0
StepIsFree = (ms : List Binomial) (p q : List ℕ) (number times : ℕ) → IsStep ms p number times q → FreeStep ms p q

abbrev pub WalkLeads : Type 0
WalkLeads = (ms : List Binomial) (p q : List ℕ) (steps : List (ℕ × ℕ)) → IsWalk ms p steps q → Leads ms p q

abbrev pub WalkEndIsNormal : Type 0
WalkEndIsNormal = (ms : List Binomial) (p q : List ℕ) (steps : List (ℕ × ℕ)) → IsWalk ms p steps q → IsNormal ms q

-- each point has a walk
abbrev pub WalkExists : Type 0
WalkExists =
    (i : Problem) → IsInstance i → (ms : List Binomial) → AreMoves i ms → (p : List ℕ) → IsPoint i p → (steps : List (ℕ × ℕ)) × (q : List ℕ) × IsWalk ms p steps q

-- and only one
abbrev pub WalkIsOne : Type 0
WalkIsOne =
    (ms : List Binomial) (p q r : List ℕ) (steps others : List (ℕ × ℕ)) → IsWalk ms p steps q → IsWalk ms p others r → (steps ≡ others) × (q ≡ r)

-- a walk is followed: its steps apply in turn
abbrev pub WalkFollows : Type 0
WalkFollows = (ms : List Binomial) (p q : List ℕ) (steps : List (ℕ × ℕ)) → IsWalk ms p steps q → Follows ms p steps q

-- what is followed is a run of free steps, whoever names the steps
abbrev pub FollowsLeads : Type 0
FollowsLeads = (ms : List Binomial) (p q : List ℕ) (steps : List (ℕ × ℕ)) → Follows ms p steps q → Leads ms p q

-- a point that no head divides by the test is one that no head divides
abbrev pub NormalIsUndivided : Type 0
NormalIsUndivided = (ms : List Binomial) (p : List ℕ) → IsNormal ms p ↔ ((m : Binomial) → Contains ms m → Divides m.head p → ⊥)

-- a point whose grade a test list covers walks by a later test list as by this one
abbrev pub WalksStay : Type 0
WalksStay =
    (i : Problem) → IsInstance i → (g h : ℕ) → g ≤ h → (ms ns : List Binomial) → IsTestList i g ms → IsTestList i h ns →
    (p : List ℕ) → IsPoint i p → grade_of i.columns p ≤ g → (steps : List (ℕ × ℕ)) (q : List ℕ) → IsWalk ns p steps q ↔ IsWalk ms p steps q

-- and its walk ends at the least point of its fiber
abbrev pub WalkEndsAtLeast : Type 0
WalkEndsAtLeast =
    (i : Problem) → IsInstance i → (g : ℕ) (ms : List Binomial) → IsTestList i g ms → (p q : List ℕ) → IsPoint i p → grade_of i.columns p ≤ g →
    IsWalkEnd ms p q → IsLeast i (degree_of i.columns p) q

-- a degree is within the grade g and the bound top
pub record IsWithin (g : ℕ) (top b : List ℕ) : Type 0 where
  pub grade : total b ≤ g
  pub bound : Divides b top

-- it is enough that each test head of a degree within the grade and the bound is a head of the list
abbrev pub WalkEndsAtLeastWithin : Type 0
WalkEndsAtLeastWithin =
    (i : Problem) → IsInstance i → (g : ℕ) (top : List ℕ) (ms : List Binomial) → AreMoves i ms →
    ((p : List ℕ) → IsTestHead i p → IsWithin g top (degree_of i.columns p) → Contains (map (λ m. m.head) ms) p) →
    (p q : List ℕ) → IsPoint i p → IsWithin g top (degree_of i.columns p) → IsWalkEnd ms p q → IsLeast i (degree_of i.columns p) q

-- the moves of a test list are moves of the instance
abbrev pub TestListHasMoves : Type 0
TestListHasMoves = (i : Problem) (g : ℕ) (ms : List Binomial) → IsTestList i g ms → AreMoves i ms

-- ---- critical pairs

-- both ends of a job are points of its degree
abbrev pub EndsHaveJobDegree : Type 0
EndsHaveJobDegree =
    (i : Problem) → IsInstance i → (ms : List Binomial) → AreMoves i ms → (j : Job) → IsJob i ms j →
    IsInFiber i (job_degree_of i ms j) (first_end_of i ms j) × IsInFiber i (job_degree_of i ms j) (second_end_of i ms j)

-- free steps lead from both p and q to one point
pub record AreJoined (ms : List Binomial) (p q : List ℕ) : Type 0 where
  pub point : List ℕ
  pub first : Leads ms p point
  pub second : Leads ms q point

-- each job within that isn't a coprime pair has its ends joined
abbrev pub JobsAreJoined : Problem → List Binomial → ℕ → List ℕ → Type 0
JobsAreJoined i ms g top = (j : Job) → IsJob i ms j → IsWithin g top (job_degree_of i ms j) → (IsCoprime ms j → ⊥) → AreJoined ms (first_end_of i ms j) (second_end_of i ms j)

-- the fiber of b has exactly one point that no head divides, and it is the least
pub record HasOneNormalPoint (i : Problem) (ms : List Binomial) (b : List ℕ) : Type 0 where
  pub point : List ℕ
  pub least : IsLeast i b point
  pub normal : IsNormal ms point
  pub only : (q : List ℕ) → IsInFiber i b q → IsNormal ms q → q ≡ point

abbrev pub GradedCriticalPairs : Type 0
GradedCriticalPairs =
    (i : Problem) → IsInstance i → (ms : List Binomial) → AreMoves i ms → (g : ℕ) (top : List ℕ) → JobsAreJoined i ms g top →
    (b : List ℕ) → IsRight i b → IsWithin g top b → HasOneNormalPoint i ms b

-- a test list joins each job within its grade
abbrev pub TestListJoinsJobs : Type 0
TestListJoinsJobs = (i : Problem) → IsInstance i → (g : ℕ) (top : List ℕ) (ms : List Binomial) → IsTestList i g ms → JobsAreJoined i ms g top
