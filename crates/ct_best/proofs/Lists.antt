-- The list of the k least solutions: there is one, and only one.
use Rattle.std.proofs.Common.{ℕ, ◌≡◌, inl, inr, ⊎_elim, nat_eq, List, map, filter, take, Contains, sym, subst, ◌∙◌, eqb-true, eq-eqb}
use Rattle.std.proofs.lemmas.List.{take_at}
use Rattle.std.proofs.lemmas.List.Elements.{All-contains, Contains-get_or}
use Rattle.ct_vectors.specs.Vectors.{zeros}
use Rattle.ct_order.specs.Order.{art_total_of}
use Rattle.ct_instance.specs.Instance.{Problem, IsInstance, IsRight, column_count}
use Rattle.ct_instance.specs.Fiber.{fiber_of}
use Rattle.ct_instance.specs.Answer.{IsSolution}
use Rattle.ct_instance.proofs.Answer.{art_total_of_solution, same_front, solution_in_fiber, solution_of_point}
use Rattle.ct_instance.proofs.Fiber.{fiber_lists, below_itself, below_chain, points_cases}
use Rattle.ct_instance.proofs.Lists.{Contains-filter, filter_gives, Contains-map, map_gives}
use Rattle.ct_instance.proofs.Ordered.{InOrder-pairs, InOrder-from_pairs}
use Rattle.ct_best.specs.Best.{point_of, IsSmaller, AreBest}
use Rattle.ct_best.proofs.Orders.{AreLeast, IsTotalOn, least_are_one, least_of_listed, put_in_order}

smaller_itself : (i : Problem) (x : List ℕ) → IsSmaller i x x → ⊥
smaller_itself i x = below_itself i (point_of i x)

smaller_chain : (i : Problem) (x y z : List ℕ) → IsSmaller i x y → IsSmaller i y z → IsSmaller i x z
smaller_chain i x y z = below_chain i (point_of i x) (point_of i y) (point_of i z)

solutions_total : (i : Problem) (b : List ℕ) → IsTotalOn (IsSmaller i) (IsSolution i b)
solutions_total i b x y s t =
    ⊎_elim (λ l. inl l) (λ r. ⊎_elim (λ e. inr (inl (same_front i.rows x y (s.numbers ∙ sym t.numbers) e))) (λ l. inr (inr l)) r)
    (points_cases i (point_of i x) (point_of i y) ((solution_in_fiber i b x).0 s).point ((solution_in_fiber i b y).0 t).point)

-- the same as a fact on a strict order

from_best : (i : Problem) (k : ℕ) (b : List ℕ) (xs : List (List ℕ)) → AreBest i k b xs → AreLeast (IsSmaller i) (IsSolution i b) k xs
from_best i k b xs a = record {
  members = λ x c. All-contains (IsSolution i b) xs x a.solutions c;
  ordered = InOrder-from_pairs (IsSmaller i) xs a.ordered;
  most = a.most;
  left = λ z s n. let f = a.left z s n in (f.0, λ x c. All-contains (λ x. IsSmaller i x z) xs x f.1 c);
}

pub to_best : (i : Problem) (k : ℕ) (b : List ℕ) (xs : List (List ℕ)) → AreLeast (IsSmaller i) (IsSolution i b) k xs → AreBest i k b xs
to_best i k b xs a = record {
  solutions = λ n d l. a.members _ (Contains-get_or xs n d l);
  ordered = InOrder-pairs (IsSmaller i) xs a.ordered;
  most = a.most;
  left = λ z s n. let f = a.left z s n in (f.0, λ m d l. f.1 _ (Contains-get_or xs m d l));
}

pub best_list_is_one : (i : Problem) (k : ℕ) (b : List ℕ) (xs zs : List (List ℕ)) → AreBest i k b xs → AreBest i k b zs → xs ≡ zs
best_list_is_one i k b xs zs a c =
    least_are_one (IsSmaller i) (smaller_itself i) (smaller_chain i) xs zs (IsSolution i b) (solutions_total i b) k (from_best i k b xs a) (from_best i k b zs c)

pub best_list_exists : (i : Problem) → IsInstance i → (k : ℕ) (b : List ℕ) → IsRight i b → (xs : List (List ℕ)) × AreBest i k b xs
best_list_exists i inst k b right =
    let sorted = put_in_order (IsSmaller i) (smaller_itself i) (smaller_chain i) (IsSolution i b) (solutions_total i b) listed only in (
      take k sorted.0,
      to_best i k b (take k sorted.0)
          (least_of_listed (IsSmaller i) (IsSolution i b) k sorted.0 sorted.1 (λ x c. only x (sorted.2 x c)) (λ x s. sorted.3 x (all x s))),
    )
  where
    -- the points of the fiber with no artificials, cut to n numbers
    bare : List (List ℕ)
    bare = filter (λ p. nat_eq (art_total_of (column_count i) p) 0) (fiber_of i.columns b)

    listed : List (List ℕ)
    listed = map (take (column_count i)) bare

    only : (x : List ℕ) → Contains listed x → IsSolution i b x
    only x c =
        let t = map_gives (take (column_count i)) bare x c in
        let f = filter_gives (λ p. nat_eq (art_total_of (column_count i) p) 0) (fiber_of i.columns b) t.0 t.1 in
        subst (IsSolution i b) t.2 (solution_of_point i b t.0 ((fiber_lists i inst b right t.0).0 f.0) (eqb-true (art_total_of (column_count i) t.0) 0 f.1))

    all : (x : List ℕ) → IsSolution i b x → Contains listed x
    all x s = subst (Contains listed) (front x s) (Contains-map (take (column_count i)) bare (point_of i x) in_bare)
      where
        in_bare : Contains bare (point_of i x)
        in_bare =
            Contains-filter (λ p. nat_eq (art_total_of (column_count i) p) 0) (fiber_of i.columns b) (point_of i x)
            ((fiber_lists i inst b right (point_of i x)).1 ((solution_in_fiber i b x).0 s))
            (eq-eqb (art_total_of (column_count i) (point_of i x)) 0 (art_total_of_solution (column_count i) i.rows x s.numbers))

        front : (x : List ℕ) → IsSolution i b x → take (column_count i) (point_of i x) ≡ x
        front x s = take_at x (zeros i.rows) (column_count i) s.numbers
