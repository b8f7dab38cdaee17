-- The test of reduced lists finds what it is named after.
use Rattle.std.proofs.Common.{ℕ, ◌+◌, ◌-◌, ◌≤◌, ◌<◌, ◌≡◌, ◌↔◌, inl, inr, ⊎_elim, Bool, true, false, true≢false, not, ◌&&◌, ◌||◌, nat_eq, nat_lt, cond, Decides, Option, Some, None, List, [], ◌∷◌, ◌++◌, length, map, find, Contains, Ordering, Less, Equal, Greater, refl, sym, subst, ap, ◌∙◌, arith, zero, suc, ltb-true, eqb-true, eq-eqb}
use Rattle.std.specs.List.{list_all}
use Rattle.std.specs.Option.{option_or, is_none}
use Rattle.std.specs.Ordering.{is_lt}
use Rattle.std.proofs.lemmas.Bool.{and_parts, and_from, or_cases, or_left, or_right, not-true, not-false, not_from_false, false_from_ne_true, cases_lt, cases_eq, lt-ltb}
use Rattle.std.proofs.lemmas.List.{map-append}
use Rattle.std.proofs.lemmas.List.Folds.{find-append}
use Rattle.ct_vectors.specs.Vectors.{divides}
use Rattle.ct_vectors.proofs.Divisors.{Divides-from_test, test_from_Divides}
use Rattle.ct_order.specs.Order.{first_difference}
use Rattle.ct_instance.specs.Instance.{Problem, grade_of}
use Rattle.ct_instance.specs.Made.{indices}
use Rattle.ct_instance.specs.TestSet.{Binomial, ComesBefore}
use Rattle.ct_instance.specs.Walk.{first_dividing}
use Rattle.ct_instance.specs.Jobs.{the_move, numbers_after}
use Rattle.ct_instance.proofs.Lists.{list_all_gives, list_all_from}
use Rattle.ct_instance.proofs.JobsList.{Contains-numbers_after, numbers_after_gives}
use Rattle.ct_resume.specs.Reduced.{IsReducedAt, IsReduced, IsFirstUnreduced, comes_before, is_undivided, is_reduced_at, first_unreduced_of}

-- ---- one number

less_is : (o : Ordering) → is_lt o ≡ true → o ≡ Less
less_is Less e = refl
less_is Equal e = absurd (true≢false (sym e))
less_is Greater e = absurd (true≢false (sym e))

none_is : (o : Option ℕ) → is_none o ≡ true → o ≡ None
none_is None e = refl
none_is (Some x) e = absurd (true≢false (sym e))

comes_before_test : (i : Problem) (p q : List ℕ) → Decides (comes_before i p q) (ComesBefore i p q)
comes_before_test i p q = (there, back)
  where
    a : ℕ
    a = grade_of i.columns p

    b : ℕ
    b = grade_of i.columns q

    there : comes_before i p q ≡ true → ComesBefore i p q
    there t =
        ⊎_elim (λ e. inl (ltb-true a b e))
        (λ e. let r = and_parts (nat_eq a b) (is_lt (first_difference p q)) e in inr (eqb-true a b r.0, less_is (first_difference p q) r.1))
        (or_cases (nat_lt a b) (nat_eq a b && is_lt (first_difference p q)) t)

    back : ComesBefore i p q → comes_before i p q ≡ true
    back (inl l) = or_left (nat_lt a b) (nat_eq a b && is_lt (first_difference p q)) (lt-ltb a b l)
    back (inr r) =
        or_right (nat_lt a b) (nat_eq a b && is_lt (first_difference p q)) (and_from (nat_eq a b) (is_lt (first_difference p q)) (eq-eqb a b r.0) (ap is_lt r.1))

reduced_at_test : (i : Problem) (ms : List Binomial) (k : ℕ) → Decides (is_reduced_at i ms k) (IsReducedAt i ms k)
reduced_at_test i ms k = (there, back)
  where
    numbers : List ℕ
    numbers = numbers_after 0 (length ms)

    heads : Bool
    heads = list_all (is_undivided ms k) (numbers_after 0 (length ms))

    tail : Bool
    tail = is_none (first_dividing ms (the_move ms k).tail)

    turn : Bool
    turn = comes_before i (the_move ms (k - 1)).head (the_move ms k).head

    there : is_reduced_at i ms k ≡ true → IsReducedAt i ms k
    there t =
        let p = and_parts heads (tail && (nat_lt k 2 || turn)) t in
        let q = and_parts tail (nat_lt k 2 || turn) p.1 in
        record {
          head = λ l a b other d.
              ⊎_elim (λ e. other (eqb-true l k e))
              (λ e. true≢false (sym (test_from_Divides (the_move ms l).head (the_move ms k).head d) ∙ not-true (divides (the_move ms l).head (the_move ms k).head) e))
              (or_cases (nat_eq l k) (not (divides (the_move ms l).head (the_move ms k).head))
              (list_all_gives (is_undivided ms k) numbers l p.0 (Contains-numbers_after 0 (length ms) l (omega arith) b)));
          tail = none_is (first_dividing ms (the_move ms k).tail) q.0;
          order = λ two. ⊎_elim (λ e. absurd (omega (arith, ltb-true k 2 e))) (λ e. (comes_before_test i (the_move ms (k - 1)).head (the_move ms k).head).0 e)
              (or_cases (nat_lt k 2) turn q.1);
        }

    back : IsReducedAt i ms k → is_reduced_at i ms k ≡ true
    back r =
        and_from heads (tail && (nat_lt k 2 || turn)) (list_all_from (is_undivided ms k) numbers undivided)
        (and_from tail (nat_lt k 2 || turn) (ap is_none r.tail)
        (⊎_elim (λ l. or_left (nat_lt k 2) turn (lt-ltb k 2 l))
        (λ l. or_right (nat_lt k 2) turn ((comes_before_test i (the_move ms (k - 1)).head (the_move ms k).head).1 (r.order l))) (cases_lt k 2)))
      where
        undivided : (l : ℕ) → Contains numbers l → is_undivided ms k l ≡ true
        undivided l c =
            let n = numbers_after_gives 0 (length ms) l c in
            let d : Bool = divides (the_move ms l).head (the_move ms k).head in
            ⊎_elim (λ e. or_left (nat_eq l k) (not d) (eq-eqb l k e))
            (λ other. or_right (nat_eq l k) (not d) (not_from_false d (false_from_ne_true d
            (λ e. r.head l (omega (arith, n.0)) n.1 other (Divides-from_test (the_move ms l).head (the_move ms k).head e)))))
            (cases_eq l k)

-- ---- the first number that passes a test

abbrev IsFirstOf : (ℕ → Bool) → ℕ → Option ℕ → Type 0
IsFirstOf t n None = (k : ℕ) → 1 ≤ k → k ≤ n → t k ≡ false
IsFirstOf t n (Some k) = (1 ≤ k) × (k ≤ n) × (t k ≡ true) × ((j : ℕ) → 1 ≤ j → j < k → t j ≡ false)

first_of : (t : ℕ → Bool) (n : ℕ) → IsFirstOf t n (find t (map (λ k. 0 + suc k) (indices n)))
first_of t zero = λ k a b. absurd (omega arith)
first_of t (suc n) =
    let rest : List ℕ = map (λ k. 0 + suc k) (indices n) in
    let e : find t (map (λ k. 0 + suc k) (indices n ++ n ∷ [])) ≡ option_or (find t rest) (find t ((0 + suc n) ∷ [])) =
    ap (find t) (map-append (λ k. 0 + suc k) (indices n) (n ∷ [])) ∙ find-append t rest ((0 + suc n) ∷ []) in
    subst (IsFirstOf t (suc n)) (sym e) (more (find t rest) (first_of t n))
  where
    more : (o : Option ℕ) → IsFirstOf t n o → IsFirstOf t (suc n) (option_or o (find t ((0 + suc n) ∷ [])))
    more (Some x) f = (f.0, omega (arith, f.1), f.2, f.3)
    more None f = last (t (0 + suc n)) refl
      where
        last : (b : Bool) → t (0 + suc n) ≡ b → IsFirstOf t (suc n) (cond b (Some (0 + suc n)) None)
        last true e = (omega arith, omega arith, e, λ j a l. f j a (omega arith))
        last false e = λ k a b. ⊎_elim (λ l. f k a (omega arith)) (λ l. subst (λ y. t y ≡ false) (let s : 0 + suc n ≡ k = omega arith in s) e) (cases_lt k (suc n))

abbrev fails_at : Problem → List Binomial → ℕ → Bool
fails_at i ms k = not (is_reduced_at i ms k)

first_unreduced_is : (i : Problem) (ms : List Binomial) → IsFirstOf (fails_at i ms) (length ms) (first_unreduced_of i ms)
unfolding first_unreduced_of
first_unreduced_is i ms =
    let e : length ms - 0 ≡ length ms = omega arith in
    subst (λ n. IsFirstOf (fails_at i ms) n (find (fails_at i ms) (numbers_after 0 (length ms)))) e (first_of (fails_at i ms) (length ms - 0))

holds : (i : Problem) (ms : List Binomial) (k : ℕ) → fails_at i ms k ≡ false → IsReducedAt i ms k
holds i ms k e = (reduced_at_test i ms k).0 (not-false (is_reduced_at i ms k) e)

breaks : (i : Problem) (ms : List Binomial) (k : ℕ) → fails_at i ms k ≡ true → IsReducedAt i ms k → ⊥
breaks i ms k e r = true≢false (sym ((reduced_at_test i ms k).1 r) ∙ not-true (is_reduced_at i ms k) e)

-- ---- the laws

pub reduced_has_none : (i : Problem) (ms : List Binomial) → (first_unreduced_of i ms ≡ None) ↔ IsReduced i ms
reduced_has_none i ms = (
  λ e k a b. holds i ms k (subst (IsFirstOf (fails_at i ms) (length ms)) e (first_unreduced_is i ms) k a b),
  λ r. none r (first_unreduced_of i ms) (first_unreduced_is i ms),
)
  where
    none : IsReduced i ms → (o : Option ℕ) → IsFirstOf (fails_at i ms) (length ms) o → o ≡ None
    none r None f = refl
    none r (Some k) f = absurd (breaks i ms k f.2 (r k f.0 f.1))

found_is_first : (i : Problem) (ms : List Binomial) (k : ℕ) → IsFirstOf (fails_at i ms) (length ms) (Some k) → IsFirstUnreduced i ms k
found_is_first i ms k f = record { some = f.0; within = f.1; unreduced = breaks i ms k f.2; before = λ j a l. holds i ms j (f.3 j a l) }

pub first_unreduced_is_found : (i : Problem) (ms : List Binomial) (k : ℕ) → (first_unreduced_of i ms ≡ Some k) ↔ IsFirstUnreduced i ms k
first_unreduced_is_found i ms k = (
  λ e. found_is_first i ms k (subst (IsFirstOf (fails_at i ms) (length ms)) e (first_unreduced_is i ms)),
  λ h. same h (first_unreduced_of i ms) (first_unreduced_is i ms),
)
  where
    same : IsFirstUnreduced i ms k → (o : Option ℕ) → IsFirstOf (fails_at i ms) (length ms) o → o ≡ Some k
    same h None f = absurd (h.unreduced (holds i ms k (f k h.some h.within)))
    same h (Some x) f =
        ⊎_elim (λ l. absurd (breaks i ms x f.2 (h.before x f.0 l)))
        (λ l. ⊎_elim (λ m. absurd (h.unreduced (holds i ms k (f.3 k h.some m)))) (λ m. ap Some (omega arith)) (cases_lt k x)) (cases_lt x k)
