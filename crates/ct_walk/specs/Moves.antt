-- Moves within the limit of grades, lists of them, and steps that a caller names.
use Rattle.std.specs.Prelude.{ℕ, ◌≤◌, ◌<◌, ◌≡◌, Some, List, [], ◌∷◌, All, length, take, slice_get}
use Rattle.ct_vectors.specs.declared.limits.TheConstants.{GRADE_LIMIT, MOVE_LIMIT}
use Rattle.ct_vectors.specs.Vectors.{scale, Divides}
use Rattle.ct_instance.specs.Instance.{Problem, IsInstance, degree_of, grade_of}
use Rattle.ct_instance.specs.Fiber.{IsBelow}
use Rattle.ct_instance.specs.TestSet.{Binomial}
use Rattle.ct_instance.specs.Walk.{IsMove, IsStep, IsWalkEnd, moved}
use Rattle.ct_instance.specs.Jobs.{the_move}
use Rattle.ct_walk.specs.declared.faults.MoveFault.{MoveFault}
use Rattle.ct_walk.specs.declared.faults.MoveFault.TheVariants.{Grade, Degree, Order}

-- a move of the instance whose head has at most the greatest grade of a walk
pub record IsSmallMove (i : Problem) (m : Binomial) : Type 0 where
  pub move : IsMove i m
  pub grade : grade_of i.columns m.head ≤ GRADE_LIMIT

-- what a list of moves is seen as: the instance whose moves they are, and the moves in order
pub record MoveList : Type 0 where
  pub instance : Problem
  pub moves : List Binomial

pub record IsMoveList (l : MoveList) : Type 0 where
  pub instance : IsInstance l.instance
  pub moves : All (IsSmallMove l.instance) l.moves
  pub most : length l.moves ≤ MOVE_LIMIT

-- when each fault of two points comes: the first that holds
abbrev pub IsFault : Problem → ℕ → List ℕ → List ℕ → MoveFault → Type 0
IsFault i limit head tail Grade = limit < grade_of i.columns head
IsFault i limit head tail Degree = (grade_of i.columns head ≤ limit) × (degree_of i.columns tail ≡ degree_of i.columns head → ⊥)
IsFault i limit head tail Order =
    (grade_of i.columns head ≤ limit) × (degree_of i.columns tail ≡ degree_of i.columns head) × (IsBelow i tail head → ⊥)

-- what a walk is seen as
pub record Trace : Type 0 where
  pub steps : List (ℕ × ℕ)
  pub end : List ℕ

-- the step applies at p: there is such a move, and it fits as often as is said, at least once
pub record CanApply (ms : List Binomial) (p : List ℕ) (number times : ℕ) : Type 0 where
  pub number_some : 1 ≤ number
  pub number_within : number ≤ length ms
  pub some : 1 ≤ times
  pub fits : Divides (scale times (the_move ms number).head) p

-- the steps apply in turn, from p to q
abbrev pub Follows : List Binomial → List ℕ → List (ℕ × ℕ) → List ℕ → Type 0
Follows ms p [] q = q ≡ p
Follows ms p (step ∷ steps) q = CanApply ms p step.0 step.1 × Follows ms (moved (the_move ms step.0) step.1 p) steps q

-- the step with the index k, from 0, is the first that doesn't apply, and the steps before it lead to q
pub record IsRefused (ms : List Binomial) (p : List ℕ) (steps : List (ℕ × ℕ)) (k : ℕ) (q : List ℕ) : Type 0 where
  pub within : k < length steps
  pub before : Follows ms p (take k steps) q
  pub refused : (number times : ℕ) → slice_get steps k ≡ Some (number, times) → CanApply ms q number times → ⊥

-- the walks of p and of q end at one point
pub record HaveOneEnd (ms : List Binomial) (p q : List ℕ) : Type 0 where
  pub end : List ℕ
  pub first : IsWalkEnd ms p end
  pub second : IsWalkEnd ms q end

-- of two points p and q one takes a step of its walk, and the other stays; then they are r and s
pub data OneSteps (ms : List Binomial) (p q r s : List ℕ) : Type 0 where
  first_steps : (number times : ℕ) → IsStep ms p number times r → s ≡ q → OneSteps ms p q r s
  second_steps : (number times : ℕ) → IsStep ms q number times s → r ≡ p → OneSteps ms p q r s
