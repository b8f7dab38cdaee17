-- Test heads: a point is improvable exactly above one, they are minimal, and the head and tail of a test move share no variable.
use Rattle.std.proofs.Common.{ℕ, ◌+◌, ◌≤◌, ◌<◌, ◌≡◌, ◌↔◌, inl, inr, ⊎_elim, Bool, true, true≢false, not, List, [], ◌∷◌, length, map, Contains, Decides, refl, sym, subst, ap, subst₂, ◌∙◌, arith, zero, suc}
use Rattle.std.specs.List.{list_all}
use Rattle.std.proofs.lemmas.Bool.{and_parts, and_from, not-true, not-false, not_from_false, false_from_ne_true, cases_Bool, cases_eq}
use Rattle.ct_vectors.specs.Vectors.{total, add, subtract, unit, Divides, Disjoint}
use Rattle.ct_vectors.proofs.Sums.{cons_same, cons_head, cons_tail, length-add_same, length-subtract, add_right_comm, add_right_cancel, add-zeros, zeros-add, total-add, total-unit, zeros_from_total}
use Rattle.ct_vectors.proofs.Divisors.{Divides-refl, Divides-trans, Divides-add_left, add-subtract, dec_disjoint}
use Rattle.ct_order.proofs.Order.{below-add, below-add_left}
use Rattle.ct_instance.specs.Instance.{Problem, IsInstance, IsPoint, column_count, width_of, degree_of}
use Rattle.ct_instance.specs.Fiber.{IsBelow, IsLeast}
use Rattle.ct_instance.specs.TestSet.{Binomial, IsImprovable, is_improvable, IsTestHead, one_less, is_test_head, IsTestMove}
use Rattle.ct_instance.specs.Walk.{IsMove}
use Rattle.ct_instance.proofs.Lists.{Contains-here, Contains-there, Contains-cons_cases, Contains-nil, Contains-map, map_gives, list_all_gives, list_all_from, list_all_fails}
use Rattle.ct_instance.proofs.Degree.{degree-add, degree_is_right}
use Rattle.ct_instance.proofs.Fiber.{in_own_fiber, improvable_test, points_cases, not_below_least, least_not_improvable}

-- ---- 1 taken from one coordinate

pub one_less_gives : (p q : List ℕ) → Contains (one_less p) q → (j : ℕ) × (j < length p) × (length q ≡ length p) × (p ≡ add q (unit (length p) j))
one_less_gives [] q c = absurd (Contains-nil q c)
one_less_gives (zero ∷ p) q c =
    let t = map_gives (λ r. zero ∷ r) (one_less p) q c in
    let r = one_less_gives p t.0 t.1 in
    subst (λ (s : List ℕ). (j : ℕ) × (j < suc (length p)) × (length s ≡ suc (length p)) × (zero ∷ p ≡ add s (unit (suc (length p)) j))) t.2
    (suc r.0, omega (arith, r.1), ap suc r.2, cons_same (omega arith) r.3)
one_less_gives (suc x ∷ p) q c =
    ⊎_elim
    (λ s. subst (λ (s : List ℕ). (j : ℕ) × (j < suc (length p)) × (length s ≡ suc (length p)) × (suc x ∷ p ≡ add s (unit (suc (length p)) j))) s
    (0, omega arith, refl, cons_same (omega arith) (sym (add-zeros p (length p) (omega arith)))))
    (λ d.
    let t = map_gives (λ r. suc x ∷ r) (one_less p) q d in
    let r = one_less_gives p t.0 t.1 in
    subst (λ (s : List ℕ). (j : ℕ) × (j < suc (length p)) × (length s ≡ suc (length p)) × (suc x ∷ p ≡ add s (unit (suc (length p)) j))) t.2
    (suc r.0, omega (arith, r.1), ap suc r.2, cons_same (omega arith) r.3))
    (Contains-cons_cases (x ∷ p) (map (λ r. suc x ∷ r) (one_less p)) q c)

pub one_less_has : (p q : List ℕ) (j : ℕ) → j < length p → length q ≡ length p → p ≡ add q (unit (length p) j) → Contains (one_less p) q
one_less_has [] q j l e f = absurd (omega arith)
one_less_has (x ∷ p) [] j l e f = absurd (omega arith)
one_less_has (zero ∷ p) (y ∷ q) zero l e f = let h : 0 ≡ y + 1 = cons_head f in absurd (omega arith)
one_less_has (zero ∷ p) (y ∷ q) (suc j) l e f =
    let h : 0 ≡ y + 0 = cons_head f in
    let z : 0 ≡ y = omega arith in
    subst (λ (w : ℕ). Contains (one_less (zero ∷ p)) (w ∷ q)) z
    (Contains-map (λ r. zero ∷ r) (one_less p) q (one_less_has p q j (omega arith) (omega arith) (cons_tail f)))
one_less_has (suc x ∷ p) (y ∷ q) zero l e f =
    let h : suc x ≡ y + 1 = cons_head f in
    let same : x ∷ p ≡ y ∷ q = cons_same (omega arith) (cons_tail f ∙ add-zeros q (length p) (omega arith)) in
    subst (Contains (one_less (suc x ∷ p))) same (Contains-here (x ∷ p) (map (λ r. suc x ∷ r) (one_less p)))
one_less_has (suc x ∷ p) (y ∷ q) (suc j) l e f =
    let h : suc x ≡ y + 0 = cons_head f in
    let z : suc x ≡ y = omega arith in
    subst (λ (w : ℕ). Contains (one_less (suc x ∷ p)) (w ∷ q)) z
    (Contains-there (x ∷ p) (map (λ r. suc x ∷ r) (one_less p)) (suc x ∷ q)
    (Contains-map (λ r. suc x ∷ r) (one_less p) q (one_less_has p q j (omega arith) (omega arith) (cons_tail f))))

-- a point that isn't zero has a coordinate to take 1 from
pub positive_coordinate : (c : List ℕ) → 1 ≤ total c → (j : ℕ) × (q : List ℕ) × (j < length c) × (length q ≡ length c) × (c ≡ add q (unit (length c) j))
positive_coordinate [] h = absurd (omega arith)
positive_coordinate (zero ∷ c) h =
    let r = positive_coordinate c (omega arith) in
    (suc r.0, zero ∷ r.1, omega (arith, r.2), ap suc r.3, cons_same (omega arith) r.4)
positive_coordinate (suc x ∷ c) h = (0, x ∷ c, omega arith, refl, cons_same (omega arith) (sym (add-zeros c (length c) (omega arith))))

-- two points that share a variable
pub shared_coordinate : (p q : List ℕ) → length p ≡ length q → (Disjoint p q → ⊥) →
    (j : ℕ) × (r : List ℕ) × (s : List ℕ) × (j < length p) × (length r ≡ length p) × (length s ≡ length p) × (p ≡ add r (unit (length p) j)) × (q ≡ add s (unit (length p) j))
shared_coordinate [] q e n = absurd (n tt)
shared_coordinate (x ∷ p) [] e n = absurd (omega arith)
shared_coordinate (suc x ∷ p) (suc y ∷ q) e n =
    (0, x ∷ p, y ∷ q, omega arith, refl, omega arith, cons_same (omega arith) (sym (add-zeros p (length p) (omega arith))), cons_same (omega arith) (sym (add-zeros q (length p) (omega arith))))
shared_coordinate (zero ∷ p) (y ∷ q) e n =
    let r = shared_coordinate p q (omega arith) (λ d. n (inl refl, d)) in
    (suc r.0, zero ∷ r.1, y ∷ r.2, omega (arith, r.3), ap suc r.4, ap suc r.5, cons_same (omega arith) r.6, cons_same (omega arith) r.7)
shared_coordinate (suc x ∷ p) (zero ∷ q) e n =
    let r = shared_coordinate p q (omega arith) (λ d. n (inr refl, d)) in
    (suc r.0, suc x ∷ r.1, zero ∷ r.2, omega (arith, r.3), ap suc r.4, ap suc r.5, cons_same (omega arith) r.6, cons_same (omega arith) r.7)

-- ---- the test

pub test_head_test : (i : Problem) → IsInstance i → (p : List ℕ) → IsPoint i p → Decides (is_test_head i p) (IsTestHead i p)
test_head_test i h p e = (there, back)
  where
    each : List ℕ → Bool
    each q = not (is_improvable i q)

    there : is_test_head i p ≡ true → IsTestHead i p
    there t =
        let b = and_parts (is_improvable i p) (list_all each (one_less p)) t in
        record {
          point = e;
          improvable = (improvable_test i h p e).0 b.0;
          minimal = λ q j f l s m.
              true≢false (sym ((improvable_test i h q f).1 m) ∙
              not-true (is_improvable i q) (list_all_gives each (one_less p) q b.1
              (one_less_has p q j (subst (λ (w : ℕ). j < w) (sym e) l) (f ∙ sym e) (subst (λ (w : ℕ). p ≡ add q (unit w j)) (sym e) s))));
        }

    back : IsTestHead i p → is_test_head i p ≡ true
    back t = and_from (is_improvable i p) (list_all each (one_less p)) ((improvable_test i h p e).1 t.improvable) (list_all_from each (one_less p) none)
      where
        none : (q : List ℕ) → Contains (one_less p) q → each q ≡ true
        none q c =
            let r = one_less_gives p q c in
            not_from_false (is_improvable i q) (false_from_ne_true (is_improvable i q)
            (λ s. t.minimal q r.0 (r.2 ∙ e) (subst (λ (w : ℕ). r.0 < w) e r.1) (subst (λ (w : ℕ). p ≡ add q (unit w r.0)) e r.3) ((improvable_test i h q (r.2 ∙ e)).0 s)))

-- ---- improvable exactly above a test head

-- what stands above an improvable point is improvable
pub improvable_up : (i : Problem) (c h : List ℕ) → IsPoint i c → IsImprovable i h → IsImprovable i (add c h)
improvable_up i c h e m = record {
  lower = add c m.lower;
  member = record {
    point = length-add_same c m.lower e (m.member).point;
    degree = degree-add i.columns c m.lower ∙ ap (add (degree_of i.columns c)) (m.member).degree ∙ sym (degree-add i.columns c h);
  };
  below = below-add_left (column_count i) i.cost_rows c m.lower h m.below;
}

pub improvable_above : (i : Problem) (h p : List ℕ) → IsPoint i h → IsPoint i p → Divides h p → IsImprovable i h → IsImprovable i p
improvable_above i h p e f d m =
    subst (IsImprovable i) (add-subtract p h (omega (arith, e, f)) d) (improvable_up i (subtract p h) h (length-subtract p h ∙ f) m)

find_test_head : (i : Problem) → IsInstance i → (n : ℕ) (p : List ℕ) → total p ≤ n → IsPoint i p → IsImprovable i p → (h : List ℕ) × IsTestHead i h × Divides h p
find_test_head i s zero p l e m = (p, record { point = e; improvable = m; minimal = none }, Divides-refl p)
  where
    none : (q : List ℕ) (j : ℕ) → IsPoint i q → j < width_of i → p ≡ add q (unit (width_of i) j) → IsImprovable i q → ⊥
    none q j f k t u = omega (arith, ap total t, total-add q (unit (width_of i) j), total-unit (width_of i) j k)
find_test_head i s (suc n) p l e m =
    ⊎_elim (λ t. (p, (test_head_test i s p e).0 (and_from (is_improvable i p) (list_all each (one_less p)) ((improvable_test i s p e).1 m) t), Divides-refl p))
    (λ t.
    let r = list_all_fails each (one_less p) t in
    let q = one_less_gives p r.0 r.1 in
    let f : IsPoint i r.0 = q.2 ∙ e in
    let less : total r.0 ≤ n = omega (arith, ap total q.3, total-add r.0 (unit (length p) q.0), total-unit (length p) q.0 q.1) in
    let up = find_test_head i s n r.0 less f ((improvable_test i s r.0 f).0 (not-false (is_improvable i r.0) r.2)) in
    (up.0, up.1, Divides-trans up.0 r.0 p up.2 (subst (Divides r.0) (sym q.3) (Divides-add_left r.0 (unit (length p) q.0)))))
    (cases_Bool (list_all each (one_less p)))
  where
    each : List ℕ → Bool
    each q = not (is_improvable i q)

pub has_test_head : (i : Problem) → IsInstance i → (p : List ℕ) → IsPoint i p → IsImprovable i p → (h : List ℕ) × IsTestHead i h × Divides h p
has_test_head i s p e m = find_test_head i s (total p) p (omega arith) e m

pub improvable_heads : (i : Problem) → IsInstance i → (p : List ℕ) → IsPoint i p → IsImprovable i p ↔ ((h : List ℕ) × IsTestHead i h × Divides h p)
improvable_heads i s p e = (has_test_head i s p e, λ t. improvable_above i t.0 p (t.1).point e t.2 (t.1).improvable)

-- ---- test heads are minimal

pub minimal_is : (i : Problem) (p h : List ℕ) → IsTestHead i p → IsPoint i h → IsImprovable i h → Divides h p → h ≡ p
minimal_is i p h t e m d = ⊎_elim none some (cases_eq (total c) 0)
  where
    c : List ℕ
    c = subtract p h

    wide : length c ≡ width_of i
    wide = length-subtract p h ∙ t.point

    whole : add c h ≡ p
    whole = add-subtract p h (omega (arith, e, t.point)) d

    none : total c ≡ 0 → h ≡ p
    none z = sym (zeros-add (length c) h (omega (arith, e, wide))) ∙ ap (λ r. add r h) (sym (zeros_from_total c z)) ∙ whole

    some : (total c ≡ 0 → ⊥) → h ≡ p
    some z =
        let r = positive_coordinate c (omega (arith, z)) in
        let q : IsPoint i (add r.1 h) = length-add_same r.1 h (r.3 ∙ wide) e in
        let s : p ≡ add (add r.1 h) (unit (length c) r.0) =
        sym whole ∙ ap (λ u. add u h) r.4 ∙ add_right_comm r.1 (unit (length c) r.0) h in
        absurd (t.minimal (add r.1 h) r.0 q (subst (λ (w : ℕ). r.0 < w) wide r.2) (subst (λ (w : ℕ). p ≡ add (add r.1 h) (unit w r.0)) wide s)
        (improvable_up i r.1 h (r.3 ∙ wide) m))

-- ---- the head and the tail of a test move share no variable

pub test_move_disjoint : (i : Problem) → IsInstance i → (h t : List ℕ) → IsTestHead i h → IsLeast i (degree_of i.columns h) t → Disjoint h t
test_move_disjoint i s h t u l = ⊎_elim (λ d. d) (λ n. absurd (apart (shared_coordinate h t (u.point ∙ sym (l.member).point) n))) (dec_disjoint h t)
  where
    apart : (j : ℕ) × (a : List ℕ) × (b : List ℕ) × (j < length h) × (length a ≡ length h) × (length b ≡ length h) × (h ≡ add a (unit (length h) j)) × (t ≡ add b (unit (length h) j)) → ⊥
    apart r =
        let e : List ℕ = unit (length h) r.0 in
        let f : IsPoint i r.1 = r.4 ∙ u.point in
        let g : IsPoint i r.2 = r.5 ∙ u.point in
        let same : degree_of i.columns r.2 ≡ degree_of i.columns r.1 =
        add_right_cancel (degree_of i.columns r.2) (degree_of i.columns r.1) (degree_of i.columns e)
        (degree_is_right i s r.2 g ∙ sym (degree_is_right i s r.1 f))
        (sym (degree-add i.columns r.2 e) ∙ ap (degree_of i.columns) (sym r.7) ∙ (l.member).degree ∙ ap (degree_of i.columns) r.6 ∙ degree-add i.columns r.1 e) in
        let step : h ≡ add r.1 (unit (width_of i) r.0) = subst (λ (w : ℕ). h ≡ add r.1 (unit w r.0)) u.point r.6 in
        ⊎_elim (λ d. u.minimal r.1 r.0 f (subst (λ (w : ℕ). r.0 < w) u.point r.3) step (record { lower = r.2; member = record { point = g; degree = same }; below = d }))
        (λ c. ⊎_elim
        (λ z. least_not_improvable i (degree_of i.columns h) h (subst (IsLeast i (degree_of i.columns h)) (r.7 ∙ ap (λ v. add v e) z ∙ sym r.6) l) u.improvable)
        (λ d. not_below_least i (degree_of i.columns h) t l h (in_own_fiber i h u.point)
        (subst₂ (IsBelow i) (sym r.6) (sym r.7) (below-add (column_count i) i.cost_rows r.1 r.2 e d))) c)
        (points_cases i r.2 r.1 g f)

-- ---- a test move is a move

pub test_move_is_move : (i : Problem) (m : Binomial) → IsTestMove i m → IsMove i m
test_move_is_move i m u = record {
  head = u.head.point;
  tail = u.tail.member.point;
  degree = u.tail.member.degree;
  below = u.tail.below m.head (in_own_fiber i m.head u.head.point)
      (λ e. least_not_improvable i (degree_of i.columns m.head) m.head (subst (IsLeast i (degree_of i.columns m.head)) (sym e) u.tail) u.head.improvable);
}
