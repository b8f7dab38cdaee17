-- The k least solutions for one right-hand side.
use Rattle.std.specs.Prelude.{ℕ, ◌≤◌, ◌≡◌, List, ◌++◌, length, All, AllPairs, Contains}
use Rattle.ct_vectors.specs.Vectors.{add, subtract, zeros, Divides}
use Rattle.ct_instance.specs.Instance.{Problem}
use Rattle.ct_instance.specs.Fiber.{IsBelow}
use Rattle.ct_instance.specs.Answer.{IsSolution}
use Rattle.ct_instance.specs.TestSet.{Binomial}

-- the point of a solution: its n numbers, and no artificials
abbrev pub point_of : Problem → List ℕ → List ℕ
point_of i x = x ++ zeros i.rows

-- one list of n numbers is below another in the refined order
abbrev pub IsSmaller : Problem → List ℕ → List ℕ → Type 0
IsSmaller i x z = IsBelow i (point_of i x) (point_of i z)

-- xs are solutions for b, each smaller than those after it, at most k; where some solution isn't one of them, they are k,
-- and each of them is smaller than it
pub record AreBest (i : Problem) (k : ℕ) (b : List ℕ) (xs : List (List ℕ)) : Type 0 where
  pub solutions : All (IsSolution i b) xs
  pub ordered : AllPairs (IsSmaller i) xs
  pub most : length xs ≤ k
  pub left : (z : List ℕ) → IsSolution i b z → (Contains xs z → ⊥) → (length xs ≡ k) × All (λ x. IsSmaller i x z) xs

-- a smaller solution, from which a move of the list taken backwards leads to x: its tail is taken away and its head added
pub record IsStepBack (i : Problem) (ms : List Binomial) (b x : List ℕ) : Type 0 where
  pub from : List ℕ
  pub solution : IsSolution i b from
  pub smaller : IsSmaller i from x
  pub move : Binomial
  pub listed : Contains ms move
  pub fits : Divides move.tail (point_of i from)
  pub gives : point_of i x ≡ add (subtract (point_of i from) move.tail) move.head
