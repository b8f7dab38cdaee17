-- The points of one degree, and the least of them.
use Rattle.std.specs.Prelude.{ℕ, ◌≡◌, Bool, List, [], ◌∷◌, filter, map}
use Rattle.std.specs.Ordering.{is_lt}
use Rattle.std.specs.List.{flat_map, best_of}
use Rattle.ct_vectors.specs.Vectors.{total, subtract, scale, divides, up_to}
use Rattle.ct_order.specs.Order.{refined_order, IsBelow as IsLowerBy}
use Rattle.ct_instance.specs.Instance.{Problem, column_count, degree_of, start_of, IsPoint}

-- the points of degree b: x_1 runs from 0 while x_1 times its column is at most b, then the other columns share
-- what remains, and the artificials are what remains at the end
unfoldable pub fiber_of : List (List ℕ) → List ℕ → List (List ℕ)
fiber_of [] b = b ∷ []
fiber_of (c ∷ cs) b =
    flat_map (λ x. map (λ p. x ∷ p) (fiber_of cs (subtract b (scale x c))))
    (filter (λ x. divides (scale x c) b) (up_to (total b)))

-- a point of the fiber of b
pub record IsInFiber (i : Problem) (b p : List ℕ) : Type 0 where
  pub point : IsPoint i p
  pub degree : degree_of i.columns p ≡ b

-- p is below q in the refined order of the instance
abbrev pub IsBelow : Problem → List ℕ → List ℕ → Type 0
IsBelow i p q = IsLowerBy (column_count i) i.cost_rows p q

-- the same as a test
abbrev pub is_lower : Problem → List ℕ → List ℕ → Bool
is_lower i p q = is_lt (refined_order (column_count i) i.cost_rows p q)

-- the least point of the fiber: the lower one of each two, from (0, b) on
unfoldable pub least_of : Problem → List ℕ → List ℕ
least_of i b =
    best_of (is_lower i) (start_of i b) (fiber_of i.columns b)

-- what it means to be least: p is in the fiber, and below every other point of it
pub record IsLeast (i : Problem) (b p : List ℕ) : Type 0 where
  pub member : IsInFiber i b p
  pub below : (q : List ℕ) → IsInFiber i b q → (q ≡ p → ⊥) → IsBelow i p q
