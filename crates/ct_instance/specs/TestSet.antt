-- Improvable points, test heads, and the test list of a grade.
use Rattle.std.specs.Prelude.{ℕ, ◌≤◌, ◌<◌, ◌≡◌, ◌⊎◌, Bool, not, ◌&&◌, nat_eq, List, [], ◌∷◌, filter, map, All, AllPairs, Contains, zero, suc}
use Rattle.std.specs.declared.cmp.Ordering.TheVariants.{Less}
use Rattle.std.specs.List.{flat_map, list_any, list_all}
use Rattle.ct_vectors.specs.Vectors.{add, unit, up_to}
use Rattle.ct_order.specs.Order.{first_difference}
use Rattle.ct_instance.specs.Instance.{Problem, width_of, degree_of, grade_of, IsPoint}
use Rattle.ct_instance.specs.Fiber.{fiber_of, least_of, is_lower, IsInFiber, IsBelow, IsLeast}

-- a move: take the head away as often as it fits, and add the tail as often
pub record Binomial : Type 0 where
  pub head : List ℕ
  pub tail : List ℕ

-- some point of its fiber lies below p
pub record IsImprovable (i : Problem) (p : List ℕ) : Type 0 where
  pub lower : List ℕ
  pub member : IsInFiber i (degree_of i.columns p) lower
  pub below : IsBelow i lower p

-- the same as a test
abbrev pub is_improvable : Problem → List ℕ → Bool
is_improvable i p =
    list_any (λ q. is_lower i q p) (fiber_of i.columns (degree_of i.columns p))

-- a minimal improvable point: with 1 taken from any coordinate it isn't improvable
pub record IsTestHead (i : Problem) (p : List ℕ) : Type 0 where
  pub point : IsPoint i p
  pub improvable : IsImprovable i p
  pub minimal : (q : List ℕ) (j : ℕ) → IsPoint i q → j < width_of i → p ≡ add q (unit (width_of i) j) → IsImprovable i q → ⊥

-- the points with 1 taken from one coordinate of p
abbrev pub one_less : List ℕ → List (List ℕ)
one_less [] = []
one_less (zero ∷ p) = map (λ q. zero ∷ q) (one_less p)
one_less (suc x ∷ p) = (x ∷ p) ∷ map (λ q. suc x ∷ q) (one_less p)

-- a test head, as a test
abbrev pub is_test_head : Problem → List ℕ → Bool
is_test_head i p = is_improvable i p && list_all (λ q. not (is_improvable i q)) (one_less p)

-- the lists of w numbers from 0 to g, the smaller number at the first place that differs first
unfoldable pub lists_of : ℕ → ℕ → List (List ℕ)
lists_of zero g = [] ∷ []
lists_of (suc w) g = flat_map (λ x. map (λ p. x ∷ p) (lists_of w g)) (up_to g)

-- the head with the least point of its fiber
abbrev pub test_move : Problem → List ℕ → Binomial
test_move i p = record { head = p; tail = least_of i (degree_of i.columns p) }

-- the test moves of grade d, by their heads
unfoldable pub test_moves_at : Problem → ℕ → List Binomial
test_moves_at i d =
    map (test_move i) (filter (λ p. nat_eq (grade_of i.columns p) d && is_test_head i p) (lists_of (width_of i) d))

-- the test moves of grade at most g, by grade and then by their heads
unfoldable pub test_list : Problem → ℕ → List Binomial
test_list i g = flat_map (test_moves_at i) (up_to g)

-- what a test list is: a test head with the least point of its fiber
pub record IsTestMove (i : Problem) (m : Binomial) : Type 0 where
  pub head : IsTestHead i m.head
  pub tail : IsLeast i (degree_of i.columns m.head) m.tail

-- p has a smaller grade than q, or the same and a smaller number at the first place that differs
abbrev pub ComesBefore : Problem → List ℕ → List ℕ → Type 0
ComesBefore i p q =
    (grade_of i.columns p < grade_of i.columns q) ⊎ ((grade_of i.columns p ≡ grade_of i.columns q) × (first_difference p q ≡ Less))

-- test moves of grade at most g alone, for each test head of grade at most g, each head before those after it
pub record IsTestList (i : Problem) (g : ℕ) (ms : List Binomial) : Type 0 where
  pub sound : All (λ m. IsTestMove i m × (grade_of i.columns m.head ≤ g)) ms
  pub complete : (p : List ℕ) → IsTestHead i p → grade_of i.columns p ≤ g → Contains (map (λ m. m.head) ms) p
  pub ordered : AllPairs (λ m n. ComesBefore i m.head n.head) ms
