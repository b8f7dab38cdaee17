-- Tests and counts that go over two lists place by place.
use Rattle.std.proofs.Common.{◌≡◌, ℕ, ◌+◌, ◌*◌, ◌/◌, ◌%◌, ◌^◌, min, below_more, ◌-◌, ◌≤◌, ◌<◌, ◌⊎◌, inl, inr, List, ◌∷◌, length, get_or, drop, refl, sym, ap, ◌∙◌, subst, arith, Bool, true, false, ◌&&◌, ◌||◌, nat_eq}
use Rattle.std.proofs.lemmas.List.{drop_more, get_or_past}
use Rattle.ct_vectors.specs.Vectors.{total, scale, Divides, disjoint, IsTimes}
use Rattle.ct_vectors.proofs.Divisors.{Divides-at, Divides-from_at}
use Rattle.ct_point.proofs.Places.{get_or-scale, total-zero}

-- what a test by places says at two lists, by their first places and the rest
module _ (test : List ℕ → List ℕ → Bool) (p q : List ℕ) (i : ℕ) (in-p : i < length p) (in-q : i < length q) where
  pub at_place : test (drop i p) (drop i q) ≡ test (get_or p i 0 ∷ drop (i + 1) p) (get_or q i 0 ∷ drop (i + 1) q)
  at_place = ap (λ l. test l (drop i q)) (drop_more p i 0 in-p) ∙ ap (λ l. test (get_or p i 0 ∷ drop (i + 1) p) l) (drop_more q i 0 in-q)

and_true : (a b : Bool) → a ≡ true → (a && b) ≡ b
and_true true b e = refl
and_true false b e = cc

some_zero : (x y : ℕ) → (x ≡ 0) ⊎ (y ≡ 0) → (nat_eq x 0 || nat_eq y 0) ≡ true
some_zero x y h = grind arith

pub disjoint_more : (p q : List ℕ) (i : ℕ) → i < length p → i < length q → (get_or p i 0 ≡ 0) ⊎ (get_or q i 0 ≡ 0) →
    disjoint (drop i p) (drop i q) ≡ disjoint (drop (i + 1) p) (drop (i + 1) q)
disjoint_more p q i l k h = at_place disjoint p q i l k ∙ and_true _ _ (some_zero (get_or p i 0) (get_or q i 0) h)

count_below : (s t h x : ℕ) → s * h ≤ x → x < t * h + h → s ≤ t
count_below s t h x fit over = grind arith

-- times fits so far, and one more doesn't at some place; where no place of the head is positive it is the greatest u64
pub record IsLeastQuotient (head p : List ℕ) (times i : ℕ) : Type 0 where
  pub fits : (k : ℕ) → k < i → times * get_or head k 0 ≤ get_or p k 0
  pub some : ((k : ℕ) × (k < i) × (0 < get_or head k 0) × (get_or p k 0 < times * get_or head k 0 + get_or head k 0)) ⊎ (((k : ℕ) → k < i → get_or head k 0 ≡ 0) × (times ≡ 2 ^ 64 - 1))

quotient : (x h : ℕ) → 0 < h → ((x / h) * h ≤ x) × (x < (x / h) * h + h)
quotient x h pos =
    let whole : h * (x / h) + x % h ≡ x = omega arith in
    let rest : x % h < h = omega arith in
    (grind arith, grind arith)

fits_less : (s t h x : ℕ) → s ≤ t → t * h ≤ x → s * h ≤ x
fits_less s t h x l k = grind arith

nothing_fits : (t h x : ℕ) → h ≡ 0 → t * h ≤ x
nothing_fits t h x e = subst (λ z. t * z ≤ x) (sym e) (omega arith)

pub IsLeastQuotient-same : (head p : List ℕ) (t i : ℕ) → get_or head i 0 ≡ 0 → IsLeastQuotient head p t i → IsLeastQuotient head p t (i + 1)
IsLeastQuotient-same head p t i none q = record {
  fits = below_more (λ k. t * get_or head k 0 ≤ get_or p k 0) i q.fits (nothing_fits t (get_or head i 0) (get_or p i 0) none);
  some = again q.some;
}
  where
    again : ((k : ℕ) × (k < i) × (0 < get_or head k 0) × (get_or p k 0 < t * get_or head k 0 + get_or head k 0)) ⊎ (((k : ℕ) → k < i → get_or head k 0 ≡ 0) × (t ≡ 2 ^ 64 - 1)) →
        ((k : ℕ) × (k < i + 1) × (0 < get_or head k 0) × (get_or p k 0 < t * get_or head k 0 + get_or head k 0)) ⊎ (((k : ℕ) → k < i + 1 → get_or head k 0 ≡ 0) × (t ≡ 2 ^ 64 - 1))
    again (inl (k, l, pos, over)) = inl (k, omega arith, pos, over)
    again (inr (zero, top)) = inr (below_more (λ k. get_or head k 0 ≡ 0) i zero none, top)

pub IsLeastQuotient-lower : (head p : List ℕ) (t r i : ℕ) → 0 < get_or head i 0 → get_or p i 0 < 2 ^ 64 → r ≡ min t (get_or p i 0 / get_or head i 0) →
    IsLeastQuotient head p t i → IsLeastQuotient head p r (i + 1)
IsLeastQuotient-lower head p t r i pos small is q = record {
  fits = below_more (λ k. r * get_or head k 0 ≤ get_or p k 0) i
      (λ k l. fits_less r t (get_or head k 0) (get_or p k 0) (omega arith) (q.fits k l))
      (fits_less r (get_or p i 0 / get_or head i 0) (get_or head i 0) (get_or p i 0) (omega arith) (quotient (get_or p i 0) (get_or head i 0) pos).0);
  some = lowest q.some (either t (get_or p i 0 / get_or head i 0));
}
  where
    either : (a b : ℕ) → (b ≤ a) ⊎ (a < b)
    either a b = grind arith

    here : r ≡ get_or p i 0 / get_or head i 0 → get_or p i 0 < r * get_or head i 0 + get_or head i 0
    here e = let over : get_or p i 0 < (get_or p i 0 / get_or head i 0) * get_or head i 0 + get_or head i 0 = (quotient (get_or p i 0) (get_or head i 0) pos).1 in
        subst (λ z. get_or p i 0 < z * get_or head i 0 + get_or head i 0) (sym e) over

    small_quotient : (x h : ℕ) → x / h ≤ x
    small_quotient x h = omega arith

    lowest : ((k : ℕ) × (k < i) × (0 < get_or head k 0) × (get_or p k 0 < t * get_or head k 0 + get_or head k 0)) ⊎ (((k : ℕ) → k < i → get_or head k 0 ≡ 0) × (t ≡ 2 ^ 64 - 1)) →
        (get_or p i 0 / get_or head i 0 ≤ t) ⊎ (t < get_or p i 0 / get_or head i 0) →
        ((k : ℕ) × (k < i + 1) × (0 < get_or head k 0) × (get_or p k 0 < r * get_or head k 0 + get_or head k 0)) ⊎ (((k : ℕ) → k < i + 1 → get_or head k 0 ≡ 0) × (r ≡ 2 ^ 64 - 1))
    lowest some (inl le) = inl (i, omega arith, pos, here (omega arith))
    lowest (inl (k, l, positive, over)) (inr lt) =
        let same : r ≡ t = omega arith in
        inl (k, omega arith, positive, subst (λ z. get_or p k 0 < z * get_or head k 0 + get_or head k 0) (sym same) over)
    lowest (inr (zero, top)) (inr lt) =
        let le : get_or p i 0 / get_or head i 0 ≤ get_or p i 0 = small_quotient (get_or p i 0) (get_or head i 0) in
        absurd (omega arith)

pub IsTimes-from : (head p : List ℕ) (times i : ℕ) → length head ≡ length p → length p ≤ i → 1 ≤ total head → IsLeastQuotient head p times i → IsTimes head p times
IsTimes-from head p times i e l pos q = record {
  fits = Divides-from_at (scale times head) p (λ k. fits_at k (get_or-scale times head k) (before_or_after k i));
  most = λ s d. most_by s d q.some;
}
  where
    before_or_after : (k i : ℕ) → (k < i) ⊎ (i ≤ k)
    before_or_after k i = grind arith

    fits_at : (k : ℕ) → get_or (scale times head) k 0 ≡ times * get_or head k 0 → (k < i) ⊎ (i ≤ k) → get_or (scale times head) k 0 ≤ get_or p k 0
    fits_at k at (inl below) = let fit : times * get_or head k 0 ≤ get_or p k 0 = q.fits k below in omega arith
    fits_at k at (inr past) =
        let none : get_or head k 0 ≡ 0 = get_or_past head k 0 (omega arith) in
        let fit : times * get_or head k 0 ≤ get_or p k 0 = nothing_fits times (get_or head k 0) (get_or p k 0) none in
        omega arith

    most_by : (s : ℕ) → Divides (scale s head) p →
        ((k : ℕ) × (k < i) × (0 < get_or head k 0) × (get_or p k 0 < times * get_or head k 0 + get_or head k 0)) ⊎ (((k : ℕ) → k < i → get_or head k 0 ≡ 0) × (times ≡ 2 ^ 64 - 1)) → s ≤ times
    most_by s d (inl (k, below, positive, over)) =
        let at : get_or (scale s head) k 0 ≡ s * get_or head k 0 = get_or-scale s head k in
        let fit : get_or (scale s head) k 0 ≤ get_or p k 0 = Divides-at (scale s head) p d k in
        count_below s times (get_or head k 0) (get_or p k 0) (omega arith) over
    most_by s d (inr (zero, top)) =
        let none : total head ≡ 0 = total-zero head (λ k m. let below : k < i = omega arith in zero k below) in
        absurd (omega arith)
