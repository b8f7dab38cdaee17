-- The order in each coordinate, the least common multiple, and disjoint points.
use Rattle.std.proofs.Common.{ℕ, ◌*◌, ◌≤◌, ◌≡◌, ◌⊎◌, inl, inr, ⊎_elim, max, Bool, true, false, nat_eq, nat_le, ◌||◌, Decides, List, [], ◌∷◌, length, get_or, refl, sym, ◌∙◌, subst, arith, zero, suc, true≢false, leb-true, le-leb, eqb-true, eq-eqb, mul-le-mul_right, mul-le-mul_left}
use Rattle.std.specs.Cmp.Lexicographic.{pointwise}
use Rattle.std.proofs.lemmas.Bool.Decides.{Decides-eqb}
use Rattle.std.proofs.lemmas.Slice.Eq.{slice_eq-Decides}
use Rattle.std.proofs.lemmas.Bool.{and_parts, and_from, or_cases, or_left, or_right}
use Rattle.ct_vectors.specs.Vectors.{total, add, subtract, scale, lcm, zeros, Divides, divides, Disjoint, disjoint}
use Rattle.ct_vectors.proofs.Sums.{cons_same, add-nil, total-scale}

-- ---- the test and the fact

pub Divides-from_test : (h p : List ℕ) → divides h p ≡ true → Divides h p
Divides-from_test [] p e = tt
Divides-from_test (x ∷ h) [] e =
    let b = and_parts (nat_eq x 0) (divides h []) e in
    (eqb-true x 0 b.0, Divides-from_test h [] b.1)
Divides-from_test (x ∷ h) (y ∷ p) e =
    let b = and_parts (nat_le x y) (divides h p) e in
    (leb-true x y b.0, Divides-from_test h p b.1)

pub test_from_Divides : (h p : List ℕ) → Divides h p → divides h p ≡ true
test_from_Divides [] p d = refl
test_from_Divides (x ∷ h) [] d = and_from (nat_eq x 0) (divides h []) (eq-eqb x 0 d.0) (test_from_Divides h [] d.1)
test_from_Divides (x ∷ h) (y ∷ p) d = and_from (nat_le x y) (divides h p) (le-leb x y d.0) (test_from_Divides h p d.1)

pub dec_divides : (h p : List ℕ) → Divides h p ⊎ (Divides h p → ⊥)
dec_divides h p = go (divides h p) refl
  where
    go : (b : Bool) → divides h p ≡ b → Divides h p ⊎ (Divides h p → ⊥)
    go true e = inl (Divides-from_test h p e)
    go false e = inr (λ d. true≢false (sym (test_from_Divides h p d) ∙ e))

pub Decides-same_numbers : (p q : List ℕ) → Decides (pointwise nat_eq p q) (p ≡ q)
Decides-same_numbers p q = slice_eq-Decides Decides-eqb p q (pointwise nat_eq p q) refl

-- ---- the order

pub Divides-refl : (p : List ℕ) → Divides p p
Divides-refl [] = tt
Divides-refl (x ∷ p) = (omega arith, Divides-refl p)

pub Divides-trans : (h p q : List ℕ) → Divides h p → Divides p q → Divides h q
Divides-trans [] p q d e = tt
Divides-trans (x ∷ h) [] [] d e = d
Divides-trans (x ∷ h) [] (z ∷ q) d e = (omega arith, Divides-trans h [] q d.1 tt)
Divides-trans (x ∷ h) (y ∷ p) [] d e = (omega arith, Divides-trans h p [] d.1 e.1)
Divides-trans (x ∷ h) (y ∷ p) (z ∷ q) d e = (omega arith, Divides-trans h p q d.1 e.1)

pub Divides-add : (c h : List ℕ) → Divides h (add c h)
Divides-add [] h = Divides-refl h
Divides-add (x ∷ c) [] = tt
Divides-add (x ∷ c) (y ∷ h) = (omega arith, Divides-add c h)

pub Divides-add_left : (c h : List ℕ) → Divides c (add c h)
Divides-add_left [] h = tt
Divides-add_left (x ∷ c) [] = Divides-refl (x ∷ c)
Divides-add_left (x ∷ c) (y ∷ h) = (omega arith, Divides-add_left c h)

-- what divides p leaves the difference
pub add-subtract : (p h : List ℕ) → length h ≤ length p → Divides h p → add (subtract p h) h ≡ p
add-subtract [] [] l d = refl
add-subtract [] (y ∷ h) l d = absurd (omega arith)
add-subtract (x ∷ p) [] l d = refl
add-subtract (x ∷ p) (y ∷ h) l d = cons_same (omega arith) (add-subtract p h (omega arith) d.1)

pub total-divides : (h p : List ℕ) → Divides h p → total h ≤ total p
total-divides [] p d = omega arith
total-divides (x ∷ h) [] d = omega (arith, total-divides h [] d.1)
total-divides (x ∷ h) (y ∷ p) d = omega (arith, total-divides h p d.1)

pub subtract-divides : (p h : List ℕ) → Divides (subtract p h) p
subtract-divides [] h = tt
subtract-divides (x ∷ p) [] = Divides-refl (x ∷ p)
subtract-divides (x ∷ p) (y ∷ h) = (omega arith, subtract-divides p h)

pub Divides-both : (c h p : List ℕ) → Divides h p → Divides (add c h) (add c p)
Divides-both [] h p d = d
Divides-both (x ∷ c) [] [] d = Divides-refl (x ∷ c)
Divides-both (x ∷ c) [] (z ∷ p) d = (omega arith, Divides-add_left c p)
Divides-both (x ∷ c) (y ∷ h) [] d = (omega arith, subst (Divides (add c h)) (add-nil c) (Divides-both c h [] d.1))
Divides-both (x ∷ c) (y ∷ h) (z ∷ p) d = (omega arith, Divides-both c h p d.1)

-- a multiple that divides p is at most its total times the point
pub times-le-total : (t : ℕ) (h p : List ℕ) → 1 ≤ total h → Divides (scale t h) p → t ≤ total p
times-le-total t h p some d =
    let e : t * 1 ≤ t * total h = mul-le-mul_left t some in
    omega (arith, total-divides (scale t h) p d, total-scale t h)

pub Divides-scale : (s t : ℕ) (p : List ℕ) → s ≤ t → Divides (scale s p) (scale t p)
Divides-scale s t [] l = tt
Divides-scale s t (x ∷ p) l = (mul-le-mul_right x l, Divides-scale s t p l)

pub zeros-divide : (n : ℕ) (p : List ℕ) → Divides (zeros n) p
zeros-divide zero p = tt
zeros-divide (suc n) [] = (refl, zeros-divide n [])
zeros-divide (suc n) (y ∷ p) = (omega arith, zeros-divide n p)

-- by coordinates
pub Divides-at : (h p : List ℕ) → Divides h p → (k : ℕ) → get_or h k 0 ≤ get_or p k 0
Divides-at [] p d k = omega arith
Divides-at (x ∷ h) [] d zero = omega arith
Divides-at (x ∷ h) [] d (suc k) = Divides-at h [] d.1 k
Divides-at (x ∷ h) (y ∷ p) d zero = d.0
Divides-at (x ∷ h) (y ∷ p) d (suc k) = Divides-at h p d.1 k

pub Divides-from_at : (h p : List ℕ) → ((k : ℕ) → get_or h k 0 ≤ get_or p k 0) → Divides h p
Divides-from_at [] p f = tt
Divides-from_at (x ∷ h) [] f = (omega (arith, f 0), Divides-from_at h [] (λ k. f (suc k)))
Divides-from_at (x ∷ h) (y ∷ p) f = (f 0, Divides-from_at h p (λ k. f (suc k)))

-- ---- the least common multiple

pub length-lcm : (p q : List ℕ) → length (lcm p q) ≡ max (length p) (length q)
length-lcm [] q = omega arith
length-lcm (x ∷ p) [] = omega arith
length-lcm (x ∷ p) (y ∷ q) = omega (arith, length-lcm p q)

pub lcm_comm : (p q : List ℕ) → lcm p q ≡ lcm q p
lcm_comm [] [] = refl
lcm_comm [] (y ∷ q) = refl
lcm_comm (x ∷ p) [] = refl
lcm_comm (x ∷ p) (y ∷ q) = cons_same (omega arith) (lcm_comm p q)

pub Divides-lcm : (p q : List ℕ) → Divides p (lcm p q)
Divides-lcm [] q = tt
Divides-lcm (x ∷ p) [] = Divides-refl (x ∷ p)
Divides-lcm (x ∷ p) (y ∷ q) = (omega arith, Divides-lcm p q)

pub Divides-lcm_right : (p q : List ℕ) → Divides q (lcm p q)
Divides-lcm_right p q = subst (Divides q) (lcm_comm q p) (Divides-lcm q p)

pub lcm-divides : (h k p : List ℕ) → Divides h p → Divides k p → Divides (lcm h k) p
lcm-divides [] k p d e = e
lcm-divides (x ∷ h) [] p d e = d
lcm-divides (x ∷ h) (y ∷ k) [] d e = (omega arith, lcm-divides h k [] d.1 e.1)
lcm-divides (x ∷ h) (y ∷ k) (z ∷ p) d e = (omega arith, lcm-divides h k p d.1 e.1)

-- ---- disjoint points

pub Disjoint-from_test : (p q : List ℕ) → disjoint p q ≡ true → Disjoint p q
Disjoint-from_test [] q e = tt
Disjoint-from_test (x ∷ p) [] e = tt
Disjoint-from_test (x ∷ p) (y ∷ q) e =
    let b = and_parts (nat_eq x 0 || nat_eq y 0) (disjoint p q) e in
    (⊎_elim (λ z. inl (eqb-true x 0 z)) (λ z. inr (eqb-true y 0 z)) (or_cases (nat_eq x 0) (nat_eq y 0) b.0), Disjoint-from_test p q b.1)

pub test_from_Disjoint : (p q : List ℕ) → Disjoint p q → disjoint p q ≡ true
test_from_Disjoint [] q d = refl
test_from_Disjoint (x ∷ p) [] d = refl
test_from_Disjoint (x ∷ p) (y ∷ q) d =
    and_from (nat_eq x 0 || nat_eq y 0) (disjoint p q)
    (⊎_elim (λ z. or_left (nat_eq x 0) (nat_eq y 0) (eq-eqb x 0 z)) (λ z. or_right (nat_eq x 0) (nat_eq y 0) (eq-eqb y 0 z)) d.0) (test_from_Disjoint p q d.1)

pub Decides-disjoint : (p q : List ℕ) → Decides (disjoint p q) (Disjoint p q)
Decides-disjoint p q = (Disjoint-from_test p q, test_from_Disjoint p q)

pub dec_disjoint : (p q : List ℕ) → Disjoint p q ⊎ (Disjoint p q → ⊥)
dec_disjoint p q = go (disjoint p q) refl
  where
    go : (b : Bool) → disjoint p q ≡ b → Disjoint p q ⊎ (Disjoint p q → ⊥)
    go true e = inl (Disjoint-from_test p q e)
    go false e = inr (λ d. true≢false (sym (test_from_Disjoint p q d) ∙ e))

-- the least common multiple of disjoint points is their sum
pub lcm-disjoint : (p q : List ℕ) → Disjoint p q → lcm p q ≡ add p q
lcm-disjoint [] q d = refl
lcm-disjoint (x ∷ p) [] d = refl
lcm-disjoint (x ∷ p) (y ∷ q) d = cons_same (⊎_elim (λ z. omega arith) (λ z. omega arith) d.0) (lcm-disjoint p q d.1)
