-- A solution's point that isn't the least is one move of the test list, taken backwards, above a lower one.
use Rattle.std.proofs.Common.{ℕ, ◌+◌, ◌≤◌, ◌≡◌, List, length, take, Contains, sym, subst, ap, ◌∙◌, arith}
use Rattle.ct_vectors.specs.Vectors.{total, add, subtract, Divides}
use Rattle.ct_vectors.proofs.Sums.{length-add_same, length-subtract, subtract-add}
use Rattle.ct_vectors.proofs.Divisors.{Divides-add, add-subtract}
use Rattle.ct_order.specs.Order.{art_total_of}
use Rattle.ct_order.proofs.Order.{below-add_left, art_total-below, art_total-add}
use Rattle.ct_instance.specs.Instance.{Problem, IsInstance, IsPoint, IsRight, column_count, degree_of, grade_of}
use Rattle.ct_instance.specs.Fiber.{IsInFiber, IsBelow}
use Rattle.ct_instance.specs.Answer.{IsSolution}
use Rattle.ct_instance.specs.TestSet.{Binomial, test_list, test_move, IsTestHead, IsImprovable}
use Rattle.ct_instance.specs.Walk.{IsMove}
use Rattle.ct_instance.proofs.Answer.{art_total_of_solution, no_artificials, solution_in_fiber, solution_of_point}
use Rattle.ct_instance.proofs.Degree.{degree_of_swap, grade-divides}
use Rattle.ct_instance.proofs.TestHeads.{has_test_head, test_move_is_move}
use Rattle.ct_instance.proofs.TestList.{test_list_gives, test_list_has}
use Rattle.ct_best.specs.Best.{point_of, IsStepBack, IsSmaller}

-- the move m taken backwards leads up from y to p
pub record StepsUp (i : Problem) (m : Binomial) (y p : List ℕ) : Type 0 where
  pub fits : Divides m.tail y
  pub gives : p ≡ add (subtract y m.tail) m.head
  pub none : art_total_of (column_count i) m.head ≡ 0

-- a point of the fiber below p, with no artificials, and the move that leads up from it to p
pub record Below (i : Problem) (b p : List ℕ) : Type 0 where
  pub move : Binomial
  pub listed : Contains (test_list i (total b)) move
  pub from : List ℕ
  pub member : IsInFiber i b from
  pub none : art_total_of (column_count i) from ≡ 0
  pub below : IsBelow i from p
  pub up : StepsUp i move from p

pub point_below : (i : Problem) → IsInstance i → (b p q : List ℕ) → IsInFiber i b p → art_total_of (column_count i) p ≡ 0 → IsInFiber i b q → IsBelow i q p → Below i b p
point_below i inst b p q f none g lower = from_head (has_test_head i inst p f.point improvable)
  where
    improvable : IsImprovable i p
    improvable = record { lower = q; member = record { point = g.point; degree = g.degree ∙ sym f.degree }; below = lower }

    from_head : (h : List ℕ) × IsTestHead i h × Divides h p → Below i b p
    from_head (h, head, divides) = record {
      move = move;
      listed = listed;
      from = from;
      member = record { point = wide; degree = same ∙ f.degree };
      none = omega (arith, art_total-below (column_count i) i.cost_rows from p below);
      below = below;
      up = record {
        fits = Divides-add rest move.tail;
        gives = sym whole ∙ ap (λ r. add r h) (sym (subtract-add rest move.tail (omega (arith, is_move.tail, long))));
        none = omega (arith, ap (art_total_of (column_count i)) whole, art_total-add (column_count i) rest h);
      };
    }
      where
        move : Binomial
        move = test_move i h

        small : grade_of i.columns h ≤ total b
        small = subst (λ (d : List ℕ). grade_of i.columns h ≤ total d) f.degree (grade-divides i.columns h p (omega (arith, head.point, f.point)) divides)

        listed : Contains (test_list i (total b)) move
        listed = test_list_has i inst (total b) h head small

        is_move : IsMove i move
        is_move = test_move_is_move i move (test_list_gives i inst (total b) move listed).0

        rest : List ℕ
        rest = subtract p h

        long : length rest ≡ column_count i + i.rows
        long = length-subtract p h ∙ f.point

        whole : add rest h ≡ p
        whole = add-subtract p h (omega (arith, head.point, f.point)) divides

        from : List ℕ
        from = add rest move.tail

        wide : IsPoint i from
        wide = length-add_same rest move.tail long is_move.tail

        same : degree_of i.columns from ≡ degree_of i.columns p
        same = degree_of_swap i.columns rest h move.tail is_move.degree ∙ ap (degree_of i.columns) whole

        below : IsBelow i from p
        below = subst (IsBelow i from) whole (below-add_left (column_count i) i.cost_rows rest move.tail h is_move.below)

-- a point with no artificials is that of its first n numbers
pub point_of_front : (i : Problem) (b p : List ℕ) → IsInFiber i b p → art_total_of (column_count i) p ≡ 0 → p ≡ point_of i (take (column_count i) p)
point_of_front i b p f none = no_artificials (column_count i) i.rows p f.point none

pub solutions_are_reached : (i : Problem) → IsInstance i → (b : List ℕ) → IsRight i b → (x z : List ℕ) → IsSolution i b x → IsSolution i b z → IsSmaller i z x →
    IsStepBack i (test_list i (total b)) b x
solutions_are_reached i inst b right x z s t lower = record {
  from = take (column_count i) r.from;
  solution = solution_of_point i b r.from r.member r.none;
  smaller = subst (λ (p : List ℕ). IsBelow i p (point_of i x)) front r.below;
  move = r.move;
  listed = r.listed;
  fits = subst (Divides r.move.tail) front r.up.fits;
  gives = r.up.gives ∙ ap (λ p. add (subtract p r.move.tail) r.move.head) front;
}
  where
    r : Below i b (point_of i x)
    r = point_below i inst b (point_of i x) (point_of i z) ((solution_in_fiber i b x).0 s) (art_total_of_solution (column_count i) i.rows x s.numbers) ((solution_in_fiber i b z).0 t) lower

    front : r.from ≡ point_of i (take (column_count i) r.from)
    front = point_of_front i b r.from r.member r.none
