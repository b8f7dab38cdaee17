-- The fiber of b is listed in full, its least point is below every other, and the rank of a point falls on the way down.
use Rattle.std.proofs.Common.{ℕ, ◌+◌, ◌≤◌, ◌<◌, ◌≡◌, ◌⊎◌, ◌↔◌, inl, inr, ⊎_elim, Bool, true, false, true≢false, List, [], ◌∷◌, map, filter, length, get_or, count_by, Contains, Decides, is_lt, refl, sym, subst, ap, ◌∙◌, arith}
use Rattle.std.specs.List.{best_of, IsFirstBest}
use Rattle.std.proofs.lemmas.List.MinMax.{IsFirstBest-from_best_of, ranks_by}
use Rattle.std.proofs.lemmas.List.Elements.{Contains-get_or, at_from_Contains}
use Rattle.std.proofs.lemmas.Bool.{false_from_ne_true, cases_eq}
use Rattle.ct_vectors.specs.Vectors.{total, add, subtract, scale, divides, up_to, zeros}
use Rattle.ct_vectors.proofs.Sums.{length-subtract, length-scale, add_comm, subtract-add, zeros_from_total}
use Rattle.ct_vectors.proofs.Divisors.{Divides-from_test, test_from_Divides, Divides-add_left, add-subtract}
use Rattle.ct_vectors.proofs.Places.{Contains-up_to}
use Rattle.ct_order.specs.Order.{refined_order}
use Rattle.ct_order.proofs.Order.{refined_order_total, below-irrefl, below-trans, below-asymm, below_cases, Less-from_test}
use Rattle.ct_instance.specs.Instance.{Problem, IsInstance, IsPoint, IsRight, column_count, degree_of, start_of, grade_of}
use Rattle.ct_instance.specs.Fiber.{fiber_of, least_of, IsInFiber, IsBelow, IsLeast}
use Rattle.ct_instance.specs.TestSet.{IsImprovable, is_improvable}
use Rattle.ct_instance.proofs.Lists.{Contains-here, Contains-there, Contains-cons_cases, Contains-filter, filter_gives, Contains-map, map_gives, Contains-flat_map, flat_map_gives, list_any-contains, list_any_gives, count_by-lt}
use Rattle.ct_instance.proofs.Degree.{AreColumns, columns, length-degree, total-le-grade, degree-start, start_is_point, degree_is_right, zeros_from_grade, grade-zeros}

-- ---- the list has each point of the fiber, and no other

pub fiber_has : (m : ℕ) (cs : List (List ℕ)) → AreColumns m cs → (p : List ℕ) → length p ≡ length cs + m → Contains (fiber_of cs (degree_of cs p)) p
unfolding fiber_of
fiber_has m [] a p e = Contains-here p []
fiber_has m (c ∷ cs) a [] e = absurd (omega arith)
fiber_has m (c ∷ cs) a (x ∷ p) e =
    let d : List ℕ = degree_of (c ∷ cs) (x ∷ p) in
    let least : x ≤ total d = omega (arith, total-le-grade m (c ∷ cs) a (x ∷ p)) in
    let small : length p ≡ length cs + m = omega arith in
    let rest : subtract d (scale x c) ≡ degree_of cs p =
    ap (λ s. subtract s (scale x c)) (add_comm (scale x c) (degree_of cs p)) ∙
    subtract-add (degree_of cs p) (scale x c) (omega (arith, length-scale x c, (a.0).entries, length-degree m cs a.1 p small)) in
    Contains-flat_map (λ y. map (λ q. y ∷ q) (fiber_of cs (subtract d (scale y c))))
    (filter (λ y. divides (scale y c) d) (up_to (total d))) x (x ∷ p)
    (Contains-filter (λ y. divides (scale y c) d) (up_to (total d)) x (Contains-up_to (total d) x least)
    (test_from_Divides (scale x c) d (Divides-add_left (scale x c) (degree_of cs p))))
    (Contains-map (λ q. x ∷ q) (fiber_of cs (subtract d (scale x c))) p
    (subst (λ (s : List ℕ). Contains (fiber_of cs s) p) (sym rest) (fiber_has m cs a.1 p small)))

pub fiber_only : (m : ℕ) (cs : List (List ℕ)) → AreColumns m cs → (b p : List ℕ) → length b ≡ m → Contains (fiber_of cs b) p →
    (length p ≡ length cs + m) × (degree_of cs p ≡ b)
unfolding fiber_of
fiber_only m [] a b p e c = ⊎_elim (λ s. (ap length (sym s) ∙ omega arith, sym s)) (λ d. absurd (omega arith)) (Contains-cons_cases b [] p c)
fiber_only m (c ∷ cs) a b p e h =
    let r = flat_map_gives (λ y. map (λ q. y ∷ q) (fiber_of cs (subtract b (scale y c)))) (filter (λ y. divides (scale y c) b) (up_to (total b))) p h in
    let fits = filter_gives (λ y. divides (scale y c) b) (up_to (total b)) r.0 r.1 in
    let t = map_gives (λ q. r.0 ∷ q) (fiber_of cs (subtract b (scale r.0 c))) p r.2 in
    let rest = fiber_only m cs a.1 (subtract b (scale r.0 c)) t.0 (length-subtract b (scale r.0 c) ∙ e) t.1 in
    let whole : degree_of (c ∷ cs) (r.0 ∷ t.0) ≡ b =
    ap (add (scale r.0 c)) rest.1 ∙ add_comm (scale r.0 c) (subtract b (scale r.0 c)) ∙
    add-subtract b (scale r.0 c) (omega (arith, length-scale r.0 c, (a.0).entries)) (Divides-from_test (scale r.0 c) b fits.1) in
    (ap length (sym t.2) ∙ omega (arith, rest.0), ap (degree_of (c ∷ cs)) (sym t.2) ∙ whole)

pub fiber_lists : (i : Problem) → IsInstance i → (b : List ℕ) → IsRight i b → (p : List ℕ) → Contains (fiber_of i.columns b) p ↔ IsInFiber i b p
fiber_lists i h b e p = (only, has)
  where
    only : Contains (fiber_of i.columns b) p → IsInFiber i b p
    only c = let r = fiber_only i.rows i.columns (columns i h) b p e c in record { point = r.0; degree = r.1 }

    has : IsInFiber i b p → Contains (fiber_of i.columns b) p
    has f = subst (λ (s : List ℕ). Contains (fiber_of i.columns s) p) f.degree (fiber_has i.rows i.columns (columns i h) p f.point)

pub in_own_fiber : (i : Problem) (p : List ℕ) → IsPoint i p → IsInFiber i (degree_of i.columns p) p
in_own_fiber i p e = record { point = e; degree = refl }

pub start_in_fiber : (i : Problem) → IsInstance i → (b : List ℕ) → IsRight i b → IsInFiber i b (start_of i b)
start_in_fiber i h b e = record { point = start_is_point i b e; degree = degree-start i h b e }

pub fiber_is_right : (i : Problem) → IsInstance i → (b p : List ℕ) → IsInFiber i b p → IsRight i b
fiber_is_right i h b p f = subst (IsRight i) f.degree (degree_is_right i h p f.point)

-- ---- the order of the instance

pub below_itself : (i : Problem) (p : List ℕ) → IsBelow i p p → ⊥
below_itself i p b = below-irrefl (column_count i) i.cost_rows p b

pub below_chain : (i : Problem) (p q r : List ℕ) → IsBelow i p q → IsBelow i q r → IsBelow i p r
below_chain i p q r b c = below-trans (column_count i) i.cost_rows p q r b c

pub below_differs : (i : Problem) (p q : List ℕ) → IsBelow i p q → p ≡ q → ⊥
below_differs i p q b e = below_itself i p (subst (IsBelow i p) (sym e) b)

pub points_cases : (i : Problem) (p q : List ℕ) → IsPoint i p → IsPoint i q → IsBelow i p q ⊎ ((p ≡ q) ⊎ IsBelow i q p)
points_cases i p q e f = below_cases (column_count i) i.cost_rows p q (e ∙ sym f)

-- ---- the least point

pub least_is_least : (i : Problem) → IsInstance i → (b : List ℕ) → IsRight i b → IsLeast i b (least_of i b)
unfolding least_of
least_is_least i h b e = record { member = member; below = below }
  where
    beats : List ℕ → List ℕ → Bool
    beats p q = is_lt (refined_order (column_count i) i.cost_rows p q)

    points : List (List ℕ)
    points = start_of i b ∷ fiber_of i.columns b

    best : (k : ℕ) × IsFirstBest beats points (length points) k × (get_or points k (start_of i b) ≡ best_of beats (start_of i b) (fiber_of i.columns b))
    best = IsFirstBest-from_best_of (ranks_by (refined_order_total (column_count i) i.cost_rows) (λ p. p)) (start_of i b) (fiber_of i.columns b)

    listed : (p : List ℕ) → Contains points p → IsInFiber i b p
    listed p c =
        ⊎_elim (λ s. subst (IsInFiber i b) s (start_in_fiber i h b e)) (λ d. (fiber_lists i h b e p).0 d)
        (Contains-cons_cases (start_of i b) (fiber_of i.columns b) p c)

    member : IsInFiber i b (best_of beats (start_of i b) (fiber_of i.columns b))
    member = subst (IsInFiber i b) best.2 (listed (get_or points best.0 (start_of i b)) (Contains-get_or points best.0 (start_of i b) best.1.0))

    below : (q : List ℕ) → IsInFiber i b q → (q ≡ best_of beats (start_of i b) (fiber_of i.columns b) → ⊥) → IsBelow i (best_of beats (start_of i b) (fiber_of i.columns b)) q
    below q f n =
        let c = at_from_Contains points q (Contains-there (start_of i b) (fiber_of i.columns b) q ((fiber_lists i h b e q).1 f)) in
        let no = best.1.1 c.0 (start_of i b) c.1 in
        let not_below : is_lt (refined_order (column_count i) i.cost_rows q (best_of beats (start_of i b) (fiber_of i.columns b))) ≡ false =
        subst (λ (r : List ℕ). beats q r ≡ false) best.2 (subst (λ (r : List ℕ). beats r (get_or points best.0 (start_of i b)) ≡ false) (c.2 (start_of i b)) no) in
        ⊎_elim (λ l. absurd (true≢false (sym (ap is_lt l) ∙ not_below)))
        (λ r. ⊎_elim (λ s. absurd (n s)) (λ l. l) r)
        (points_cases i q (best_of beats (start_of i b) (fiber_of i.columns b)) f.point member.point)

pub least_in_fiber : (i : Problem) → IsInstance i → (b : List ℕ) → IsRight i b → IsInFiber i b (least_of i b)
least_in_fiber i h b e = (least_is_least i h b e).member

pub not_below_least : (i : Problem) (b p : List ℕ) → IsLeast i b p → (q : List ℕ) → IsInFiber i b q → IsBelow i q p → ⊥
not_below_least i b p l q f d =
    below-asymm (column_count i) i.cost_rows q p d (l.below q f (below_differs i q p d))

pub one_least : (i : Problem) (b p q : List ℕ) → IsLeast i b p → IsLeast i b q → p ≡ q
one_least i b p q l m =
    ⊎_elim (λ d. absurd (not_below_least i b q m p l.member d))
    (λ r. ⊎_elim (λ s. s) (λ d. absurd (not_below_least i b p l q m.member d)) r) (points_cases i p q (l.member).point (m.member).point)

pub is_least_of : (i : Problem) → IsInstance i → (b p : List ℕ) → IsLeast i b p → p ≡ least_of i b
is_least_of i h b p l = one_least i b p (least_of i b) l (least_is_least i h b (fiber_is_right i h b p l.member))

-- the least point of the fiber is below p, or is p
pub least_below : (i : Problem) → IsInstance i → (b p : List ℕ) → IsInFiber i b p → (least_of i b ≡ p) ⊎ IsBelow i (least_of i b) p
least_below i h b p f =
    let l = least_is_least i h b (fiber_is_right i h b p f) in
    ⊎_elim (λ d. inr d) (λ r. ⊎_elim (λ s. inl s) (λ d. absurd (not_below_least i b (least_of i b) l p f d)) r)
    (points_cases i (least_of i b) p (l.member).point f.point)

-- ---- the rank: how many points of its fiber are below p

pub rank_of : Problem → List ℕ → ℕ
rank_of i p = count_by (λ q. is_lt (refined_order (column_count i) i.cost_rows q p)) (fiber_of i.columns (degree_of i.columns p))

pub rank_falls : (i : Problem) → IsInstance i → (p q : List ℕ) → IsPoint i p → IsPoint i q → degree_of i.columns q ≡ degree_of i.columns p → IsBelow i q p →
    rank_of i q < rank_of i p
unfolding rank_of
rank_falls i h p q e f s d =
    let b : List ℕ = degree_of i.columns p in
    let r : IsRight i b = degree_is_right i h p e in
    subst (λ (g : List ℕ). count_by (below q) (fiber_of i.columns g) < count_by (below p) (fiber_of i.columns b)) (sym s)
    (count_by-lt (below q) (below p) (fiber_of i.columns b) q more ((fiber_lists i h b r q).1 (record { point = f; degree = s })) none (ap is_lt d))
  where
    below : List ℕ → List ℕ → Bool
    below r s = is_lt (refined_order (column_count i) i.cost_rows s r)

    more : (x : List ℕ) → Contains (fiber_of i.columns (degree_of i.columns p)) x → below q x ≡ true → below p x ≡ true
    more x c t = ap is_lt (below_chain i x q p (Less-from_test (refined_order (column_count i) i.cost_rows x q) t) d)

    none : below q q ≡ false
    none = false_from_ne_true (below q q) (λ t. below_itself i q (Less-from_test (refined_order (column_count i) i.cost_rows q q) t))

-- ---- improvable, or least

pub improvable_test : (i : Problem) → IsInstance i → (p : List ℕ) → IsPoint i p → Decides (is_improvable i p) (IsImprovable i p)
improvable_test i h p e = (yes', back)
  where
    b : List ℕ
    b = degree_of i.columns p

    right : IsRight i b
    right = degree_is_right i h p e

    test : List ℕ → Bool
    test q = is_lt (refined_order (column_count i) i.cost_rows q p)

    yes' : is_improvable i p ≡ true → IsImprovable i p
    yes' t =
        let r = list_any_gives test (fiber_of i.columns b) t in
        record { lower = r.0; member = (fiber_lists i h b right r.0).0 r.1; below = Less-from_test (refined_order (column_count i) i.cost_rows r.0 p) r.2 }

    back : IsImprovable i p → is_improvable i p ≡ true
    back m = list_any-contains test (fiber_of i.columns b) m.lower ((fiber_lists i h b right m.lower).1 m.member) (ap is_lt m.below)

pub dec_improvable : (i : Problem) → IsInstance i → (p : List ℕ) → IsPoint i p → IsImprovable i p ⊎ (IsImprovable i p → ⊥)
dec_improvable i h p e = go (is_improvable i p) refl
  where
    go : (t : Bool) → is_improvable i p ≡ t → IsImprovable i p ⊎ (IsImprovable i p → ⊥)
    go true s = inl ((improvable_test i h p e).0 s)
    go false s = inr (λ m. true≢false (sym ((improvable_test i h p e).1 m) ∙ s))

pub least_from_not_improvable : (i : Problem) (p : List ℕ) → IsPoint i p → (IsImprovable i p → ⊥) → IsLeast i (degree_of i.columns p) p
least_from_not_improvable i p e n = record { member = in_own_fiber i p e; below = below }
  where
    below : (q : List ℕ) → IsInFiber i (degree_of i.columns p) q → (q ≡ p → ⊥) → IsBelow i p q
    below q f differ =
        ⊎_elim (λ d. d) (λ r. ⊎_elim (λ s. absurd (differ (sym s))) (λ d. absurd (n (record { lower = q; member = f; below = d }))) r) (points_cases i p q e f.point)

pub least_not_improvable : (i : Problem) (b p : List ℕ) → IsLeast i b p → IsImprovable i p → ⊥
least_not_improvable i b p l m =
    not_below_least i b p l m.lower (subst (λ (g : List ℕ). IsInFiber i g m.lower) (l.member).degree m.member) m.below

-- each point is the least of its fiber or improvable
pub least_or_improvable : (i : Problem) → IsInstance i → (p : List ℕ) → IsPoint i p → IsLeast i (degree_of i.columns p) p ⊎ IsImprovable i p
least_or_improvable i h p e = ⊎_elim inr (λ n. inl (least_from_not_improvable i p e n)) (dec_improvable i h p e)

pub least_points : (i : Problem) → IsInstance i → (b : List ℕ) → IsRight i b → (p : List ℕ) → (p ≡ least_of i b) ↔ IsLeast i b p
least_points i h b e p = (λ s. subst (IsLeast i b) (sym s) (least_is_least i h b e), is_least_of i h b p)

-- what has a point of its degree below it isn't zero
pub below_positive : (i : Problem) → IsInstance i → (p q : List ℕ) → IsPoint i p → IsPoint i q → degree_of i.columns q ≡ degree_of i.columns p → IsBelow i q p → 1 ≤ total p
below_positive i h p q e f s d = ⊎_elim (λ z. absurd (below_differs i q p d (same z))) (λ n. omega (arith, n)) (cases_eq (total p) 0)
  where
    same : total p ≡ 0 → q ≡ p
    same z =
        let zero_point : p ≡ zeros (length p) = zeros_from_total p z in
        let grade : grade_of i.columns p ≡ 0 = grade-zeros i.rows i.columns (columns i h) p e z in
        zeros_from_grade i.rows i.columns (columns i h) q (ap total s ∙ grade) ∙ ap zeros (f ∙ sym e) ∙ sym zero_point

pub improvable_not_least : (i : Problem) → IsInstance i → (p : List ℕ) → IsPoint i p → IsImprovable i p ↔ (IsLeast i (degree_of i.columns p) p → ⊥)
improvable_not_least i h p e =
    (λ m l. least_not_improvable i (degree_of i.columns p) p l m, λ n. ⊎_elim (λ l. absurd (n l)) (λ m. m) (least_or_improvable i h p e))
