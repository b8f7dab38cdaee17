-- Reduced lists of moves. Moves are numbered from 1.
use Rattle.std.specs.Prelude.{ℕ, ◌-◌, ◌≤◌, ◌<◌, ◌≡◌, Bool, not, ◌&&◌, ◌||◌, nat_eq, nat_lt, is_none, Option, List, length, find}
use Rattle.std.specs.List.{list_all}
use Rattle.std.specs.Ordering.{is_lt}
use Rattle.ct_vectors.specs.Vectors.{Divides, divides}
use Rattle.ct_order.specs.Order.{first_difference}
use Rattle.ct_instance.specs.Instance.{Problem, grade_of}
use Rattle.ct_instance.specs.TestSet.{Binomial, ComesBefore}
use Rattle.ct_instance.specs.Walk.{first_dividing, IsNormal}
use Rattle.ct_instance.specs.Jobs.{the_move, numbers_after}

-- the head of no other move divides that of the move with the number k
abbrev pub IsUndivided : List Binomial → ℕ → Type 0
IsUndivided ms k = (l : ℕ) → 1 ≤ l → l ≤ length ms → (l ≡ k → ⊥) → Divides (the_move ms l).head (the_move ms k).head → ⊥

-- the move with the number k: the head of no other move divides its head, no head divides its tail, and its head comes
-- after that of the move before it
pub record IsReducedAt (i : Problem) (ms : List Binomial) (k : ℕ) : Type 0 where
  pub head : IsUndivided ms k
  pub tail : IsNormal ms (the_move ms k).tail
  pub order : 2 ≤ k → ComesBefore i (the_move ms (k - 1)).head (the_move ms k).head

abbrev pub IsReduced : Problem → List Binomial → Type 0
IsReduced i ms = (k : ℕ) → 1 ≤ k → k ≤ length ms → IsReducedAt i ms k

-- the first number of a move at which the list isn't reduced
pub record IsFirstUnreduced (i : Problem) (ms : List Binomial) (k : ℕ) : Type 0 where
  pub some : 1 ≤ k
  pub within : k ≤ length ms
  pub unreduced : IsReducedAt i ms k → ⊥
  pub before : (j : ℕ) → 1 ≤ j → j < k → IsReducedAt i ms j

-- ---- the same as tests

abbrev pub comes_before : Problem → List ℕ → List ℕ → Bool
comes_before i p q =
    nat_lt (grade_of i.columns p) (grade_of i.columns q) || (nat_eq (grade_of i.columns p) (grade_of i.columns q) && is_lt (first_difference p q))

abbrev pub is_undivided : List Binomial → ℕ → ℕ → Bool
is_undivided ms k l = nat_eq l k || not (divides (the_move ms l).head (the_move ms k).head)

abbrev pub is_reduced_at : Problem → List Binomial → ℕ → Bool
is_reduced_at i ms k =
    list_all (is_undivided ms k) (numbers_after 0 (length ms)) &&
    (is_none (first_dividing ms (the_move ms k).tail) && (nat_lt k 2 || comes_before i (the_move ms (k - 1)).head (the_move ms k).head))

unfoldable pub first_unreduced_of : Problem → List Binomial → Option ℕ
first_unreduced_of i ms = find (λ k. not (is_reduced_at i ms k)) (numbers_after 0 (length ms))
