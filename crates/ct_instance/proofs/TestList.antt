-- The test list of a grade is the one list that is sound, complete and in order, and a greater grade only adds moves at its end.
use Rattle.std.proofs.Common.{ℕ, ◌+◌, ◌-◌, ◌≤◌, ◌<◌, ◌≡◌, ◌↔◌, inl, inr, ⊎_elim, Bool, nat_eq, ◌&&◌, List, [], ◌∷◌, ◌++◌, length, map, filter, flat_map, get_or, Contains, Less, Equal, refl, sym, subst, ap, ap₂, subst₂, ◌∙◌, arith, zero, suc, append_assoc, append-nil, eqb-true, eq-eqb}
use Rattle.std.specs.Ordering.{ordering_then}
use Rattle.std.specs.Cmp.{nat_cmp_is, tied_itself}
use Rattle.std.proofs.lemmas.Bool.{and_parts, and_from}
use Rattle.std.proofs.lemmas.List.Elements.{All-contains, Contains-get_or}
use Rattle.std.proofs.lemmas.List.Concat.{flat_map-append}
use Rattle.ct_vectors.specs.Vectors.{total, up_to}
use Rattle.ct_vectors.proofs.Places.{Contains-up_to, le-up_to}
use Rattle.ct_order.specs.Order.{first_difference}
use Rattle.ct_order.proofs.Order.{first_difference_total}
use Rattle.ct_instance.specs.Instance.{Problem, IsInstance, IsPoint, width_of, degree_of, grade_of}
use Rattle.ct_instance.specs.Fiber.{IsLeast}
use Rattle.ct_instance.specs.TestSet.{Binomial, IsTestHead, is_test_head, lists_of, test_move, test_moves_at, test_list, IsTestMove, ComesBefore, IsTestList}
use Rattle.ct_instance.proofs.Lists.{Contains-here, Contains-cons_cases, Contains-nil, Contains-filter, filter_gives, Contains-map, map_gives, Contains-flat_map, flat_map_gives}
use Rattle.ct_instance.proofs.Degree.{columns, total-le-grade, degree_is_right}
use Rattle.ct_instance.proofs.Fiber.{least_is_least, one_least}
use Rattle.ct_instance.proofs.TestHeads.{test_head_test}
use Rattle.ct_instance.proofs.Ordered.{InOrder, InOrder-filter, InOrder-map, InOrder-flat_map, InOrder-up_to, InOrder-pairs, InOrder-from_pairs, InOrder-unique}

-- ---- the lists of w numbers up to g

pub lists_has : (w g : ℕ) (p : List ℕ) → length p ≡ w → total p ≤ g → Contains (lists_of w g) p
unfolding lists_of
lists_has zero g [] e l = Contains-here [] []
lists_has zero g (x ∷ p) e l = absurd (omega arith)
lists_has (suc w) g [] e l = absurd (omega arith)
lists_has (suc w) g (x ∷ p) e l =
    Contains-flat_map (λ y. map (λ q. y ∷ q) (lists_of w g)) (up_to g) x (x ∷ p) (Contains-up_to g x (omega arith))
    (Contains-map (λ q. x ∷ q) (lists_of w g) p (lists_has w g p (omega arith) (omega arith)))

pub lists_only : (w g : ℕ) (p : List ℕ) → Contains (lists_of w g) p → length p ≡ w
unfolding lists_of
lists_only zero g p c = ⊎_elim (λ s. ap length (sym s)) (λ d. absurd (Contains-nil p d)) (Contains-cons_cases [] [] p c)
lists_only (suc w) g p c =
    let r = flat_map_gives (λ y. map (λ q. y ∷ q) (lists_of w g)) (up_to g) p c in
    let t = map_gives (λ q. r.0 ∷ q) (lists_of w g) p r.2 in
    ap length (sym t.2) ∙ ap suc (lists_only w g t.0 t.1)

abbrev IsFirst : List ℕ → List ℕ → Type 0
IsFirst p q = first_difference p q ≡ Less

first_by_head : (x y : ℕ) (p q : List ℕ) → x < y → IsFirst (x ∷ p) (y ∷ q)
first_by_head x y p q l = ap (λ o. ordering_then o (first_difference p q)) (sym (nat_cmp_is x y Less l))

first_by_rest : (x : ℕ) (p q : List ℕ) → IsFirst p q → IsFirst (x ∷ p) (x ∷ q)
first_by_rest x p q e = ap (λ o. ordering_then o (first_difference p q)) (sym (nat_cmp_is x x Equal refl)) ∙ e

lists_in_order : (w g : ℕ) → InOrder IsFirst (lists_of w g)
unfolding lists_of
lists_in_order zero g = (λ y c. absurd (Contains-nil y c), tt)
lists_in_order (suc w) g =
    InOrder-flat_map (λ (a b : ℕ). a < b) IsFirst (λ x. map (λ p. x ∷ p) (lists_of w g))
    (λ x. InOrder-map IsFirst IsFirst (λ p. x ∷ p) (lists_of w g) (λ p q c d. first_by_rest x p q) (lists_in_order w g))
    apart (up_to g) (InOrder-up_to g)
  where
    apart : (x y : ℕ) (a b : List ℕ) → x < y → Contains (map (λ p. x ∷ p) (lists_of w g)) a → Contains (map (λ p. y ∷ p) (lists_of w g)) b → IsFirst a b
    apart x y a b l c d =
        let s = map_gives (λ p. x ∷ p) (lists_of w g) a c in
        let t = map_gives (λ p. y ∷ p) (lists_of w g) b d in
        subst₂ IsFirst s.2 t.2 (first_by_head x y s.0 t.0 l)

-- ---- the moves of one grade

pub moves_at_gives : (i : Problem) → IsInstance i → (d : ℕ) (m : Binomial) → Contains (test_moves_at i d) m → IsTestMove i m × (grade_of i.columns m.head ≡ d)
unfolding test_moves_at
moves_at_gives i h d m c =
    let t = map_gives (test_move i) (filter (λ p. nat_eq (grade_of i.columns p) d && is_test_head i p) (lists_of (width_of i) d)) m c in
    let f = filter_gives (λ p. nat_eq (grade_of i.columns p) d && is_test_head i p) (lists_of (width_of i) d) t.0 t.1 in
    let b = and_parts (nat_eq (grade_of i.columns t.0) d) (is_test_head i t.0) f.1 in
    let e : IsPoint i t.0 = lists_only (width_of i) d t.0 f.0 in
    let u : IsTestHead i t.0 = (test_head_test i h t.0 e).0 b.1 in
    subst (λ (k : Binomial). IsTestMove i k × (grade_of i.columns k.head ≡ d)) t.2
    (record { head = u; tail = least_is_least i h (degree_of i.columns t.0) (degree_is_right i h t.0 e) }, eqb-true (grade_of i.columns t.0) d b.0)

pub moves_at_has : (i : Problem) → IsInstance i → (d : ℕ) (p : List ℕ) → IsTestHead i p → grade_of i.columns p ≡ d → Contains (test_moves_at i d) (test_move i p)
unfolding test_moves_at
moves_at_has i h d p t e =
    Contains-map (test_move i) (filter (λ q. nat_eq (grade_of i.columns q) d && is_test_head i q) (lists_of (width_of i) d)) p
    (Contains-filter (λ q. nat_eq (grade_of i.columns q) d && is_test_head i q) (lists_of (width_of i) d) p
    (lists_has (width_of i) d p t.point (omega (arith, total-le-grade i.rows i.columns (columns i h) p)))
    (and_from (nat_eq (grade_of i.columns p) d) (is_test_head i p) (eq-eqb (grade_of i.columns p) d e) ((test_head_test i h p t.point).1 t)))

abbrev Before : Problem → Binomial → Binomial → Type 0
Before i m n = ComesBefore i m.head n.head

-- ---- the test list

pub test_list_gives : (i : Problem) → IsInstance i → (g : ℕ) (m : Binomial) → Contains (test_list i g) m → IsTestMove i m × (grade_of i.columns m.head ≤ g)
unfolding test_list
test_list_gives i h g m c =
    let r = flat_map_gives (test_moves_at i) (up_to g) m c in
    let t = moves_at_gives i h r.0 m r.2 in
    (t.0, omega (arith, t.1, le-up_to g r.0 r.1))

pub test_list_has : (i : Problem) → IsInstance i → (g : ℕ) (p : List ℕ) → IsTestHead i p → grade_of i.columns p ≤ g → Contains (test_list i g) (test_move i p)
unfolding test_list
test_list_has i h g p t l =
    Contains-flat_map (test_moves_at i) (up_to g) (grade_of i.columns p) (test_move i p) (Contains-up_to g (grade_of i.columns p) l)
    (moves_at_has i h (grade_of i.columns p) p t refl)

moves_in_order : (i : Problem) → (d : ℕ) → InOrder (Before i) (test_moves_at i d)
unfolding test_moves_at
moves_in_order i d =
    InOrder-map IsFirst (Before i) (test_move i) (filter keep (lists_of (width_of i) d)) (λ p q c e f. inr (grade p c ∙ sym (grade q e), f))
    (InOrder-filter IsFirst keep (lists_of (width_of i) d) (lists_in_order (width_of i) d))
  where
    keep : List ℕ → Bool
    keep p = nat_eq (grade_of i.columns p) d && is_test_head i p

    grade : (p : List ℕ) → Contains (filter keep (lists_of (width_of i) d)) p → grade_of i.columns p ≡ d
    grade p c =
        eqb-true (grade_of i.columns p) d
        (and_parts (nat_eq (grade_of i.columns p) d) (is_test_head i p) (filter_gives keep (lists_of (width_of i) d) p c).1).0

pub test_list_in_order : (i : Problem) → IsInstance i → (g : ℕ) → InOrder (Before i) (test_list i g)
unfolding test_list
test_list_in_order i h g =
    InOrder-flat_map (λ (a b : ℕ). a < b) (Before i) (test_moves_at i) (moves_in_order i)
    (λ x y a b l c d. inl (omega (arith, (moves_at_gives i h x a c).1, (moves_at_gives i h y b d).1))) (up_to g) (InOrder-up_to g)

-- ---- it is the one test list of its grade

pub is_test_list : (i : Problem) → IsInstance i → (g : ℕ) → IsTestList i g (test_list i g)
is_test_list i h g = record {
  sound = λ k d l. test_list_gives i h g (get_or (test_list i g) k d) (Contains-get_or (test_list i g) k d l);
  complete = λ p t l. Contains-map (λ m. m.head) (test_list i g) (test_move i p) (test_list_has i h g p t l);
  ordered = InOrder-pairs (Before i) (test_list i g) (test_list_in_order i h g);
}

pub before_itself : (i : Problem) (p : List ℕ) → ComesBefore i p p → ⊥
before_itself i p (inl l) = omega arith
before_itself i p (inr t) = let e : Equal ≡ Less = sym (tied_itself first_difference_total p) ∙ t.1 in grind arith

pub before_chain : (i : Problem) (p q r : List ℕ) → ComesBefore i p q → ComesBefore i q r → ComesBefore i p r
before_chain i p q r (inl l) (inl k) = inl (omega arith)
before_chain i p q r (inl l) (inr t) = inl (omega (arith, t.0))
before_chain i p q r (inr t) (inl k) = inl (omega (arith, t.0))
before_chain i p q r (inr t) (inr u) = inr (t.0 ∙ u.0, first_difference_total.trans p q r t.1 u.1)

-- a test move is fixed by its head
pub same_move : (i : Problem) (m n : Binomial) → IsTestMove i m → IsTestMove i n → m.head ≡ n.head → m ≡ n
same_move i m n t u e =
    ap₂ (λ h k. record { head = h; tail = k }) e
    (one_least i (degree_of i.columns n.head) m.tail n.tail (subst (λ h. IsLeast i (degree_of i.columns h) m.tail) e t.tail) u.tail)

-- the move of a test list with this head
pub move_of_head : (i : Problem) (g : ℕ) (ms : List Binomial) → IsTestList i g ms → (p : List ℕ) → IsTestHead i p → grade_of i.columns p ≤ g →
    (m : Binomial) × Contains ms m × (m.head ≡ p)
move_of_head i g ms t p u l = map_gives (λ m. m.head) ms p (t.complete p u l)

pub move_is_sound : (i : Problem) (g : ℕ) (ms : List Binomial) → IsTestList i g ms → (m : Binomial) → Contains ms m → IsTestMove i m × (grade_of i.columns m.head ≤ g)
move_is_sound i g ms t m c = All-contains (λ k. IsTestMove i k × (grade_of i.columns k.head ≤ g)) ms m t.sound c

member_of_other : (i : Problem) (g : ℕ) (ms ns : List Binomial) → IsTestList i g ms → IsTestList i g ns → (m : Binomial) → Contains ms m → Contains ns m
member_of_other i g ms ns t u m c =
    let s = move_is_sound i g ms t m c in
    let r = move_of_head i g ns u m.head (s.0).head s.1 in
    subst (Contains ns) (same_move i r.0 m (move_is_sound i g ns u r.0 r.1).0 s.0 r.2) r.1

pub one_test_list : (i : Problem) (g : ℕ) (ms ns : List Binomial) → IsTestList i g ms → IsTestList i g ns → ms ≡ ns
one_test_list i g ms ns t u =
    InOrder-unique (Before i) (λ m. before_itself i m.head) (λ m n k. before_chain i m.head n.head k.head) ms ns
    (InOrder-from_pairs (Before i) ms t.ordered) (InOrder-from_pairs (Before i) ns u.ordered)
    (member_of_other i g ms ns t u) (member_of_other i g ns ms u t)

pub test_lists : (i : Problem) → IsInstance i → (g : ℕ) (ms : List Binomial) → (ms ≡ test_list i g) ↔ IsTestList i g ms
test_lists i h g ms =
    (λ e. subst (IsTestList i g) (sym e) (is_test_list i h g), λ t. one_test_list i g ms (test_list i g) t (is_test_list i h g))

-- ---- a greater grade adds moves at the end

pub test_list-suc : (i : Problem) (g : ℕ) → test_list i (suc g) ≡ test_list i g ++ test_moves_at i (suc g)
unfolding test_list
test_list-suc i g =
    flat_map-append (test_moves_at i) (up_to g) (suc g ∷ []) ∙ ap (λ s. flat_map (test_moves_at i) (up_to g) ++ s) (append-nil (test_moves_at i (suc g)))

grows_by : (i : Problem) (g d : ℕ) → (more : List Binomial) × (test_list i (d + g) ≡ test_list i g ++ more)
grows_by i g zero = ([], ap (test_list i) (let e : 0 + g ≡ g = omega arith in e) ∙ sym (append-nil (test_list i g)))
grows_by i g (suc d) =
    let r = grows_by i g d in
    let e : suc d + g ≡ suc (d + g) = omega arith in (
      r.0 ++ test_moves_at i (suc (d + g)),
      ap (test_list i) e ∙ test_list-suc i (d + g) ∙ ap (λ s. s ++ test_moves_at i (suc (d + g))) r.1 ∙ append_assoc (test_list i g) r.0 (test_moves_at i (suc (d + g))),
    )

pub test_lists_grow : (i : Problem) (g h : ℕ) → g ≤ h → (more : List Binomial) × (test_list i h ≡ test_list i g ++ more)
test_lists_grow i g h l =
    let e : (h - g) + g ≡ h = omega arith in
    subst (λ (k : ℕ). (more : List Binomial) × (test_list i k ≡ test_list i g ++ more)) e (grows_by i g (h - g))
