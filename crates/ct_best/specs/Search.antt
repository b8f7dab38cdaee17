-- The search for the k least: one ordered list of points, closed under steps up.
use Rattle.std.specs.Prelude.{ℕ, ◌≤◌, ◌<◌, ◌≡◌, ◌⊎◌, List, [], length, get_or, take, All, AllPairs, Contains}
use Rattle.ct_vectors.specs.Vectors.{add, subtract, Divides}
use Rattle.ct_order.specs.Order.{art_total_of}
use Rattle.ct_instance.specs.Instance.{Problem, column_count}
use Rattle.ct_instance.specs.Fiber.{IsInFiber, IsBelow, least_of}
use Rattle.ct_instance.specs.TestSet.{Binomial}

-- a point of the fiber with no artificials
pub record IsSolutionPoint (i : Problem) (b p : List ℕ) : Type 0 where
  pub member : IsInFiber i b p
  pub none : art_total_of (column_count i) p ≡ 0

-- the k least of these points
pub record AreBestPoints (i : Problem) (b : List ℕ) (k : ℕ) (ps : List (List ℕ)) : Type 0 where
  pub points : All (IsSolutionPoint i b) ps
  pub ordered : AllPairs (IsBelow i) ps
  pub most : length ps ≤ k
  pub left : (q : List ℕ) → IsSolutionPoint i b q → (Contains ps q → ⊥) → (length ps ≡ k) × All (λ p. IsBelow i p q) ps

-- the move applies backwards at p, and brings no artificials
pub record CanStepUp (i : Problem) (m : Binomial) (p : List ℕ) : Type 0 where
  pub fits : Divides m.tail p
  pub none : art_total_of (column_count i) m.head ≡ 0

-- taken backwards, it leads up from p to s
pub record IsStepUp (i : Problem) (m : Binomial) (p s : List ℕ) : Type 0 where
  pub can : CanStepUp i m p
  pub gives : s ≡ add (subtract p m.tail) m.head

-- s is in the list, or the list has k items and all of them are below s
abbrev pub IsReached : Problem → ℕ → List (List ℕ) → List ℕ → Type 0
IsReached i k xs s = Contains xs s ⊎ ((length xs ≡ k) × ((x : List ℕ) → Contains xs x → IsBelow i x s))

-- at most k points of solutions, in order, from the least on; where a move leads up from one of the first n, to there is
-- reached, and by one of the first j moves also from the one behind them
pub record IsFrontier (i : Problem) (b : List ℕ) (k : ℕ) (ms : List Binomial) (xs : List (List ℕ)) (n j : ℕ) : Type 0 where
  pub points : All (IsSolutionPoint i b) xs
  pub ordered : AllPairs (IsBelow i) xs
  pub some : 1 ≤ length xs
  pub most : length xs ≤ k
  pub least : get_or xs 0 [] ≡ least_of i b
  pub done : (t : ℕ) → t < n → t < length xs → (m : Binomial) → Contains ms m → (s : List ℕ) → IsStepUp i m (get_or xs t []) s → IsReached i k xs s
  pub now : n < length xs → (m : Binomial) → Contains (take j ms) m → (s : List ℕ) → IsStepUp i m (get_or xs n []) s → IsReached i k xs s

-- what becomes of xs where s is put in: nothing else is new, what is below s stays where it is, and what was reached stays so
pub record IsPutIn (i : Problem) (k : ℕ) (xs : List (List ℕ)) (s : List ℕ) (ys : List (List ℕ)) : Type 0 where
  pub members : (x : List ℕ) → Contains ys x → Contains xs x ⊎ (s ≡ x)
  pub ordered : AllPairs (IsBelow i) ys
  pub longer : length xs ≤ length ys
  pub most : length ys ≤ k
  pub stays : (t : ℕ) → t < length xs → IsBelow i (get_or xs t []) s → get_or ys t [] ≡ get_or xs t []
  pub kept : (z : List ℕ) → IsReached i k xs z → IsReached i k ys z
  pub reached : IsReached i k ys s
