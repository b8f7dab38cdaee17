-- Steps by a list of moves. Moves are numbered from 1.
use Rattle.std.specs.Prelude.{ℕ, ◌≤◌, ◌≡◌, cond, Option, Some, None, List, [], ◌∷◌, All, slice_get, zero, suc}
use Rattle.std.specs.Option.{option_map}
use Rattle.ct_vectors.specs.Vectors.{add, subtract, scale, Divides, divides, IsTimes}
use Rattle.ct_instance.specs.Instance.{Problem, IsPoint, degree_of}
use Rattle.ct_instance.specs.Fiber.{IsBelow}
use Rattle.ct_instance.specs.TestSet.{Binomial}

-- a move of the instance: both ends have one degree, and the tail is below the head
pub record IsMove (i : Problem) (m : Binomial) : Type 0 where
  pub head : IsPoint i m.head
  pub tail : IsPoint i m.tail
  pub degree : degree_of i.columns m.tail ≡ degree_of i.columns m.head
  pub below : IsBelow i m.tail m.head

abbrev pub AreMoves : Problem → List Binomial → Type 0
AreMoves i ms = All (IsMove i) ms

-- the move with this number
abbrev pub move_at : List Binomial → ℕ → Option Binomial
move_at ms zero = None
move_at ms (suc k) = slice_get ms k

-- the least number of a move whose head divides p
abbrev pub first_dividing : List Binomial → List ℕ → Option ℕ
first_dividing [] p = None
first_dividing (m ∷ ms) p = cond (divides m.head p) (Some 1) (option_map suc (first_dividing ms p))

-- no head divides p
abbrev pub IsNormal : List Binomial → List ℕ → Type 0
IsNormal ms p = first_dividing ms p ≡ None

-- p less t times the head plus t times the tail
abbrev pub moved : Binomial → ℕ → List ℕ → List ℕ
moved m t p = add (subtract p (scale t m.head)) (scale t m.tail)

-- a free step from p to q: some move of the list, some times
pub record FreeStep (ms : List Binomial) (p q : List ℕ) : Type 0 where
  pub number : ℕ
  pub move : Binomial
  pub times : ℕ
  pub at : move_at ms number ≡ Some move
  pub some : 1 ≤ times
  pub fits : Divides (scale times move.head) p
  pub gives : q ≡ moved move times p

-- free steps lead from p to q
pub data Leads (ms : List Binomial) : List ℕ → List ℕ → Type 0 where
  stay : (p : List ℕ) → Leads ms p p
  step : (p q r : List ℕ) → FreeStep ms p q → Leads ms q r → Leads ms p r

-- one step of the walk: the first move that divides p, as many times as it fits
pub record IsStep (ms : List Binomial) (p : List ℕ) (number times : ℕ) (q : List ℕ) : Type 0 where
  pub move : Binomial
  pub first : first_dividing ms p ≡ Some number
  pub at : move_at ms number ≡ Some move
  pub count : IsTimes move.head p times
  pub gives : q ≡ moved move times p

-- the walk of p is these steps, each a number and a count, and ends at q, which no head divides
pub data IsWalk (ms : List Binomial) : List ℕ → List (ℕ × ℕ) → List ℕ → Type 0 where
  ends : (p : List ℕ) → IsNormal ms p → IsWalk ms p [] p
  walks : (p q r : List ℕ) (number times : ℕ) (steps : List (ℕ × ℕ)) → IsStep ms p number times q → IsWalk ms q steps r →
      IsWalk ms p ((number, times) ∷ steps) r

-- the walk of p ends at q
pub record IsWalkEnd (ms : List Binomial) (p q : List ℕ) : Type 0 where
  pub steps : List (ℕ × ℕ)
  pub walk : IsWalk ms p steps q
