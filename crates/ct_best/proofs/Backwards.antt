-- Moves taken backwards: where they lead, and that no coordinate overflows.
use Rattle.std.proofs.Common.{ℕ, ◌≤◌, ◌<◌, ◌^◌, ◌≡◌, List, All, get_or, sym, subst, ap, ◌∙◌, arith}
use Rattle.std.proofs.lemmas.List.{get_or_default}
use Rattle.ct_vectors.specs.Vectors.{total, add, subtract, scale, Divides}
use Rattle.ct_vectors.specs.declared.limits.TheConstants.{GRADE_LIMIT, JOB_GRADE_LIMIT}
use Rattle.ct_vectors.proofs.Sums.{length-add_same, length-subtract, scale-one}
use Rattle.ct_vectors.proofs.Divisors.{add-subtract}
use Rattle.ct_order.specs.Order.{art_total_of}
use Rattle.ct_order.proofs.Order.{below-add_left, art_total-add}
use Rattle.ct_instance.specs.Instance.{Problem, IsInstance, IsPoint, column_count, degree_of, grade_of}
use Rattle.ct_instance.specs.Fiber.{IsBelow}
use Rattle.ct_instance.specs.TestSet.{Binomial}
use Rattle.ct_instance.specs.Walk.{IsMove}
use Rattle.ct_instance.proofs.Degree.{columns, degree_of_swap, coordinate-le-grade}
use Rattle.ct_best.specs.Search.{IsSolutionPoint, IsStepUp}

-- a coordinate is at most the grade
pub coordinates_within : (i : Problem) → IsInstance i → (p : List ℕ) → grade_of i.columns p ≤ GRADE_LIMIT → All (λ x. x ≤ GRADE_LIMIT) p
coordinates_within i inst p g k d l =
    let at : get_or p k 0 ≤ grade_of i.columns p = coordinate-le-grade i.rows i.columns (columns i inst) p k in
    let same : get_or p k d ≡ get_or p k 0 = get_or_default p k d 0 l in
    omega arith

pub small_coordinates : (i : Problem) → IsInstance i → (p : List ℕ) → grade_of i.columns p ≤ GRADE_LIMIT → All (λ x. x ≤ JOB_GRADE_LIMIT) p
small_coordinates i inst p g k d l = let at : get_or p k d ≤ GRADE_LIMIT = coordinates_within i inst p g k d l in omega arith

-- where a move taken backwards comes to
module _ (i : Problem) (m : Binomial) (move : IsMove i m) (p : List ℕ) (point : IsPoint i p) (fits : Divides m.tail p) where
  abbrev pub up : List ℕ
  up = add (subtract p m.tail) m.head

  rest_wide : IsPoint i (subtract p m.tail)
  rest_wide = length-subtract p m.tail ∙ point

  whole : add (subtract p m.tail) m.tail ≡ p
  whole = add-subtract p m.tail (omega (arith, move.tail, point)) fits

  pub up_is_point : IsPoint i up
  up_is_point = length-add_same (subtract p m.tail) m.head rest_wide move.head

  pub up-degree : degree_of i.columns up ≡ degree_of i.columns p
  up-degree = sym (degree_of_swap i.columns (subtract p m.tail) m.head m.tail move.degree) ∙ ap (degree_of i.columns) whole

  pub up_is_above : IsBelow i p up
  up_is_above = subst (λ (q : List ℕ). IsBelow i q up) whole (below-add_left (column_count i) i.cost_rows (subtract p m.tail) m.tail m.head move.below)

  pub up-artificials : art_total_of (column_count i) p ≡ 0 → art_total_of (column_count i) m.head ≡ 0 → art_total_of (column_count i) up ≡ 0
  up-artificials none head =
      omega (arith, ap (art_total_of (column_count i)) whole, art_total-add (column_count i) (subtract p m.tail) m.tail, art_total-add (column_count i) (subtract p m.tail) m.head)

  pub up_fits : IsInstance i → grade_of i.columns p ≤ GRADE_LIMIT → All (λ x. x < 2 ^ 64) up
  up_fits inst g k d l =
      let same : grade_of i.columns up ≡ grade_of i.columns p = ap total up-degree in
      let at : get_or up k d ≤ GRADE_LIMIT = coordinates_within i inst up (omega arith) k d l in
      omega arith

-- the same as code writes it, for one time
pub once : (m : Binomial) (p : List ℕ) → add (subtract p (scale 1 m.tail)) (scale 1 m.head) ≡ add (subtract p m.tail) m.head
once m p = ap (λ t. add (subtract p t) (scale 1 m.head)) (scale-one m.tail) ∙ ap (add (subtract p m.tail)) (scale-one m.head)

-- from a point of a solution it leads to a point of another
pub step_up_is_solution : (i : Problem) (m : Binomial) → IsMove i m → (b p s : List ℕ) → IsSolutionPoint i b p → IsStepUp i m p s → IsSolutionPoint i b s
step_up_is_solution i m move b p s a u =
    let point : IsPoint i p = a.member.point in
    subst (IsSolutionPoint i b) (sym u.gives)
    (record {
      member = record { point = up_is_point i m move p point u.can.fits; degree = up-degree i m move p point u.can.fits ∙ a.member.degree };
      none = up-artificials i m move p point u.can.fits a.none u.can.none;
    })

pub step_up_is_above : (i : Problem) (m : Binomial) → IsMove i m → (b p s : List ℕ) → IsSolutionPoint i b p → IsStepUp i m p s → IsBelow i p s
step_up_is_above i m move b p s a u = subst (IsBelow i p) (sym u.gives) (up_is_above i m move p a.member.point u.can.fits)
