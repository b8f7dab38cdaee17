-- Solutions are the points of the fiber with no artificials, and the answer is the least of them.
use Rattle.std.proofs.Common.{ℕ, ℤ, ◌+◌, ◌≤◌, ◌≡◌, ◌⊎◌, ◌↔◌, inl, inr, ⊎_elim, Bool, true, false, cond, nat_eq, List, [], ◌∷◌, ◌++◌, length, take, drop, refl, sym, subst, ap, ap₂, ◌∙◌, arith, length-append, length-drop, take-append-drop, le_of_eq, subst₂, eqb-true}
use Rattle.std.proofs.lemmas.Bool.{eqb-false}
use Rattle.ct_vectors.specs.Vectors.{total, add, scale, zeros}
use Rattle.ct_vectors.proofs.Sums.{length-zeros, total-zeros, zeros_from_total}
use Rattle.ct_order.specs.Order.{art_total_of}
use Rattle.ct_order.proofs.Order.{art_total-below}
use Rattle.ct_instance.specs.Instance.{Problem, IsInstance, IsRight, column_count, degree_of}
use Rattle.ct_instance.specs.Fiber.{least_of, IsInFiber, IsBelow, IsLeast}
use Rattle.ct_instance.specs.Answer.{weighted_sum, IsSolution, costs_of, optimum, infeasible, answer_of}
use Rattle.ct_instance.specs.Laws.{IsOptimum, IsShort}
use Rattle.ct_instance.proofs.Fiber.{least_is_least, least_below, points_cases, below_differs, below_itself, below_chain}

-- ---- a point with no artificials

drop_front : (x y : List ℕ) → drop (length x) (x ++ y) ≡ y
drop_front [] y = refl
drop_front (a ∷ x) y = drop_front x y

take_front : (x y : List ℕ) → take (length x) (x ++ y) ≡ x
take_front [] y = refl
take_front (a ∷ x) y = ap (λ (s : List ℕ). a ∷ s) (take_front x y)

pub art_total_of_solution : (n m : ℕ) (x : List ℕ) → length x ≡ n → art_total_of n (x ++ zeros m) ≡ 0
art_total_of_solution n m x e =
    subst (λ (k : ℕ). total (drop k (x ++ zeros m)) ≡ 0) e (ap total (drop_front x (zeros m)) ∙ total-zeros m)

pub no_artificials : (n m : ℕ) (p : List ℕ) → length p ≡ n + m → art_total_of n p ≡ 0 → p ≡ take n p ++ zeros m
no_artificials n m p e a =
    let k : length (drop n p) ≡ m = omega (arith, length-drop n p) in
    sym (take-append-drop n p) ∙ ap (λ s. take n p ++ s) (zeros_from_total (drop n p) a ∙ ap zeros k)

pub same_front : (m : ℕ) (x z : List ℕ) → length x ≡ length z → x ++ zeros m ≡ z ++ zeros m → x ≡ z
same_front m x z e f =
    sym (take_front x (zeros m)) ∙ ap (take (length x)) f ∙ ap (λ k. take k (z ++ zeros m)) e ∙ take_front z (zeros m)

pub degree-solution : (m : ℕ) (cs : List (List ℕ)) (x : List ℕ) → length x ≡ length cs → degree_of cs (x ++ zeros m) ≡ weighted_sum m cs x
degree-solution m [] [] e = refl
degree-solution m [] (a ∷ x) e = absurd (omega arith)
degree-solution m (c ∷ cs) [] e = absurd (omega arith)
degree-solution m (c ∷ cs) (a ∷ x) e = ap (add (scale a c)) (degree-solution m cs x (omega arith))

pub solution_in_fiber : (i : Problem) (b x : List ℕ) → IsSolution i b x ↔ IsInFiber i b (x ++ zeros i.rows)
solution_in_fiber i b x = (there, back)
  where
    there : IsSolution i b x → IsInFiber i b (x ++ zeros i.rows)
    there s = record {
      point = length-append x (zeros i.rows) ∙ ap₂ ◌+◌ s.numbers (length-zeros i.rows);
      degree = degree-solution i.rows i.columns x s.numbers ∙ s.equal;
    }

    back : IsInFiber i b (x ++ zeros i.rows) → IsSolution i b x
    back f =
        let n : length x ≡ column_count i = omega (arith, f.point, length-append x (zeros i.rows), length-zeros i.rows) in
        record { numbers = n; equal = sym (degree-solution i.rows i.columns x n) ∙ f.degree }

-- ---- the answer

-- a point of the fiber with no artificials is a solution
pub solution_of_point : (i : Problem) (b p : List ℕ) → IsInFiber i b p → art_total_of (column_count i) p ≡ 0 → IsSolution i b (take (column_count i) p)
solution_of_point i b p f a =
    (solution_in_fiber i b (take (column_count i) p)).1
    (subst (IsInFiber i b) (no_artificials (column_count i) i.rows p f.point a) f)

optimum_from_least : (i : Problem) (b p : List ℕ) → IsLeast i b p → art_total_of (column_count i) p ≡ 0 →
    IsOptimum i b (take (column_count i) p) (costs_of i (take (column_count i) p))
optimum_from_least i b p l a = record { solution = solution_of_point i b p l.member a; below = below; paid = refl }
  where
    whole : p ≡ take (column_count i) p ++ zeros i.rows
    whole = no_artificials (column_count i) i.rows p (l.member).point a

    below : (z : List ℕ) → IsSolution i b z → (z ≡ take (column_count i) p → ⊥) → IsBelow i (take (column_count i) p ++ zeros i.rows) (z ++ zeros i.rows)
    below z s n =
        let x : List ℕ = take (column_count i) p in
        let t = solution_of_point i b p l.member a in
        subst (λ (r : List ℕ). IsBelow i r (z ++ zeros i.rows)) whole
        (l.below (z ++ zeros i.rows) ((solution_in_fiber i b z).0 s) (λ e. n (same_front i.rows z x (s.numbers ∙ sym t.numbers) (e ∙ whole))))

short_from_least : (i : Problem) → IsInstance i → (b : List ℕ) → IsRight i b → (art_total_of (column_count i) (least_of i b) ≡ 0 → ⊥) →
    IsShort i b (art_total_of (column_count i) (least_of i b))
short_from_least i h b e n = record { some = omega (arith, n); point = least_of i b; member = l.member; reached = refl; smallest = smallest }
  where
    l : IsLeast i b (least_of i b)
    l = least_is_least i h b e

    smallest : (q : List ℕ) → IsInFiber i b q → art_total_of (column_count i) (least_of i b) ≤ art_total_of (column_count i) q
    smallest q f =
        ⊎_elim (λ s. le_of_eq (ap (art_total_of (column_count i)) s))
        (λ d. art_total-below (column_count i) i.cost_rows (least_of i b) q d) (least_below i h b q f)

pub answer_cases : (i : Problem) → IsInstance i → (b : List ℕ) → IsRight i b →
    ((x : List ℕ) × (costs : List ℤ) × (answer_of i b ≡ optimum x costs) × IsOptimum i b x costs) ⊎
    ((s : ℕ) × (answer_of i b ≡ infeasible s) × IsShort i b s)
answer_cases i h b e = go (nat_eq a 0) refl
  where
    p : List ℕ
    p = least_of i b

    a : ℕ
    a = art_total_of (column_count i) p

    x : List ℕ
    x = take (column_count i) p

    go : (t : Bool) → nat_eq a 0 ≡ t →
        ((x : List ℕ) × (costs : List ℤ) × (answer_of i b ≡ optimum x costs) × IsOptimum i b x costs) ⊎
        ((s : ℕ) × (answer_of i b ≡ infeasible s) × IsShort i b s)
    go true s =
        inl (
          x,
          costs_of i x,
          ap (λ (t : Bool). cond t (optimum x (costs_of i x)) (infeasible a)) s,
          optimum_from_least i b p (least_is_least i h b e) (eqb-true a 0 s),
        )
    go false s =
        inr (a, ap (λ (t : Bool). cond t (optimum x (costs_of i x)) (infeasible a)) s, short_from_least i h b e (eqb-false a 0 s))

pub one_optimum : (i : Problem) (b x z : List ℕ) (costs others : List ℤ) → IsOptimum i b x costs → IsOptimum i b z others → (x ≡ z) × (costs ≡ others)
one_optimum i b x z costs others o u =
    let f = (solution_in_fiber i b x).0 o.solution in
    let g = (solution_in_fiber i b z).0 u.solution in
    let same : x ≡ z =
    ⊎_elim (λ d. absurd (below_itself i (x ++ zeros i.rows) (below_chain i (x ++ zeros i.rows) (z ++ zeros i.rows) (x ++ zeros i.rows) d (u.below x o.solution (λ s. below_differs i (x ++ zeros i.rows) (z ++ zeros i.rows) d (ap (λ r. r ++ zeros i.rows) s))))))
    (λ r. ⊎_elim (λ s. same_front i.rows x z ((o.solution).numbers ∙ sym (u.solution).numbers) s)
    (λ d. absurd (below_itself i (z ++ zeros i.rows) (below_chain i (z ++ zeros i.rows) (x ++ zeros i.rows) (z ++ zeros i.rows) d (o.below z u.solution (λ s. below_differs i (z ++ zeros i.rows) (x ++ zeros i.rows) d (ap (λ r. r ++ zeros i.rows) s)))))) r)
    (points_cases i (x ++ zeros i.rows) (z ++ zeros i.rows) f.point g.point) in
    (same, o.paid ∙ ap (costs_of i) same ∙ sym u.paid)

pub short_has_no_solution : (i : Problem) (b : List ℕ) (s : ℕ) → IsShort i b s → (x : List ℕ) → IsSolution i b x → ⊥
short_has_no_solution i b s h x t =
    let f : s ≤ art_total_of (column_count i) (x ++ zeros i.rows) = h.smallest (x ++ zeros i.rows) ((solution_in_fiber i b x).0 t) in
    let some : 1 ≤ s = h.some in
    omega (arith, art_total_of_solution (column_count i) i.rows x t.numbers)

pub one_short : (i : Problem) (b : List ℕ) (s t : ℕ) → IsShort i b s → IsShort i b t → s ≡ t
one_short i b s t h k =
    let e : s ≤ art_total_of (column_count i) k.point = h.smallest k.point k.member in
    let f : t ≤ art_total_of (column_count i) h.point = k.smallest h.point h.member in
    omega (arith, h.reached, k.reached)

pub answer_is_optimum : (i : Problem) → IsInstance i → (b : List ℕ) → IsRight i b → (x : List ℕ) (costs : List ℤ) → (answer_of i b ≡ optimum x costs) ↔ IsOptimum i b x costs
answer_is_optimum i h b e x costs = (there, back)
  where
    there : answer_of i b ≡ optimum x costs → IsOptimum i b x costs
    there s =
        ⊎_elim (λ c.
        let d : optimum c.0 c.1 ≡ optimum x costs = sym c.2 ∙ s in
        let f : c.0 ≡ x = cc in
        let g : c.1 ≡ costs = cc in
        subst₂ (IsOptimum i b) f g c.3)
        (λ c. let d : infeasible c.0 ≡ optimum x costs = sym c.1 ∙ s in absurd (cc)) (answer_cases i h b e)

    back : IsOptimum i b x costs → answer_of i b ≡ optimum x costs
    back o =
        ⊎_elim (λ c. let t = one_optimum i b c.0 x c.1 costs c.3 o in c.2 ∙ ap₂ optimum t.0 t.1)
        (λ c. absurd (short_has_no_solution i b c.0 c.2 x o.solution)) (answer_cases i h b e)

pub answer_is_short : (i : Problem) → IsInstance i → (b : List ℕ) → IsRight i b → (s : ℕ) → (answer_of i b ≡ infeasible s) ↔ IsShort i b s
answer_is_short i h b e s = (there, back)
  where
    there : answer_of i b ≡ infeasible s → IsShort i b s
    there t =
        ⊎_elim (λ c. let d : optimum c.0 c.1 ≡ infeasible s = sym c.2 ∙ t in absurd (cc))
        (λ c.
        let d : infeasible c.0 ≡ infeasible s = sym c.1 ∙ t in
        let f : c.0 ≡ s = cc in
        subst (IsShort i b) f c.2) (answer_cases i h b e)

    back : IsShort i b s → answer_of i b ≡ infeasible s
    back o =
        ⊎_elim (λ c. absurd (short_has_no_solution i b s o c.0 (c.3).solution)) (λ c. c.1 ∙ ap infeasible (one_short i b c.0 s c.2 o)) (answer_cases i h b e)

pub none_is_short : (i : Problem) → IsInstance i → (b : List ℕ) → IsRight i b → ((x : List ℕ) → IsSolution i b x → ⊥) ↔ ((s : ℕ) × IsShort i b s)
none_is_short i h b e = (there, λ t. short_has_no_solution i b t.0 t.1)
  where
    there : ((x : List ℕ) → IsSolution i b x → ⊥) → (s : ℕ) × IsShort i b s
    there n = ⊎_elim (λ c. absurd (n c.0 (c.3).solution)) (λ c. (c.0, c.2)) (answer_cases i h b e)
