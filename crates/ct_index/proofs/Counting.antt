-- How many times a head fits, coordinate by coordinate of its support.
use Rattle.std.proofs.Common.{ℕ, ◌-◌, ◌*◌, ◌/◌, ◌^◌, ◌≤◌, ◌<◌, ◌≡◌, inl, inr, min, List, [], ◌∷◌, get_or, sym, ◌∙◌, subst, ap, arith, zero, suc, mul-le-mul_right, mul-le-mul_left}
use Rattle.std.specs.Int.{bit_at}
use lib.Bits.{bit_and}
use Rattle.std.proofs.Math.Nat.{div-mul-le_self, le-div_iff_mul-le}
use Rattle.std.proofs.lemmas.Bool.{cases_lt, cases_eq}
use Rattle.std.proofs.lemmas.Nat.Bits.{bit_at-zero}
use Rattle.ct_vectors.specs.Vectors.{total, scale, Divides, IsTimes}
use Rattle.ct_vectors.proofs.Divisors.{Divides-at, Divides-from_at}
use Rattle.ct_point.proofs.Places.{get_or-scale}
use Rattle.ct_index.specs.Table.{IsSupport}
use Rattle.ct_index.proofs.BitFacts.{bit_cases, IsLowest, cleared_set, cleared_kept}

-- the coordinates that are left are of the support, and the count is the greatest that the others allow
pub record Counting (head p : List ℕ) (support left times : ℕ) : Type 0 where
  pub of_support : (i : ℕ) → bit_at left i ≡ 1 → bit_at support i ≡ 1
  pub fits : (i : ℕ) → bit_at support i ≡ 1 → bit_at left i ≡ 0 → times * get_or head i 0 ≤ get_or p i 0
  pub most : (s : ℕ) → s < 2 ^ 64 → Divides (scale s head) p → s ≤ times

pub counting_start : (head p : List ℕ) (support : ℕ) → Counting head p support support (2 ^ 64 - 1)
counting_start head p support = record {
  of_support = λ i b. b;
  fits = λ i one clear. absurd (omega arith);
  most = λ s l d. omega arith;
}

at_most : (s t x h : ℕ) → s ≤ t → t * h ≤ x → s * h ≤ x
at_most s t x h l fits = omega (arith, fits, mul-le-mul_right h l)

pub counting_more : (head p : List ℕ) (support left times j q : ℕ) → IsLowest left j → IsSupport head support → q ≡ get_or p j 0 / get_or head j 0 → Counting head p support left times →
    Counting head p support (bit_and left (left - 1)) (min times q)
counting_more head p support left times j q low s is c = record {
  of_support = λ i b. c.of_support i (cleared_set left i b);
  fits = λ i one clear. elim (cases_eq i j) [
    | inl same ↦
        let fit : q * get_or head j 0 ≤ get_or p j 0 = subst (λ (x : ℕ). x * get_or head j 0 ≤ get_or p j 0) (sym is) (div-mul-le_self (get_or p j 0) (get_or head j 0)) in
        subst (λ (k : ℕ). min times q * get_or head k 0 ≤ get_or p k 0) (sym same) (at_most (min times q) q (get_or p j 0) (get_or head j 0) (omega arith) fit)
    | inr other ↦ elim (bit_cases left i) [
      | inl before ↦ at_most (min times q) times (get_or p i 0) (get_or head i 0) (omega arith) (c.fits i one before)
      | inr set ↦ absurd (let kept : bit_at (bit_and left (left - 1)) i ≡ 1 = cleared_kept left j low i other set in omega arith)
    ]
  ];
  most = λ n l d.
      let positive : 0 < get_or head j 0 = (s j).0 (c.of_support j low.set) in
      let at : get_or (scale n head) j 0 ≡ n * get_or head j 0 = get_or-scale n head j in
      let fit : n * get_or head j 0 ≤ get_or p j 0 = omega (arith, Divides-at (scale n head) p d j) in
      let here : n ≤ get_or p j 0 / get_or head j 0 = (le-div_iff_mul-le positive).1 fit in
      omega (arith, here, is, c.most n l d);
}

positive_at : (h : List ℕ) → 1 ≤ total h → (i : ℕ) × (0 < get_or h i 0)
positive_at [] l = absurd (omega arith)
positive_at (zero ∷ h) l = let r = positive_at h (omega arith) in (suc r.0, r.1)
positive_at (suc x ∷ h) l = (0, omega arith)

times_le : (s x h : ℕ) → 0 < h → s * h ≤ x → s ≤ x
times_le s x h some fits = let one : s * 1 ≤ s * h = mul-le-mul_left s some in omega arith

-- nothing is left
pub counting_all : (head p : List ℕ) (support left times : ℕ) → left ≡ 0 → ((i : ℕ) → get_or p i 0 < 2 ^ 64) → IsSupport head support → 1 ≤ total head → Counting head p support left times → IsTimes head p times
counting_all head p support left times none small s some c = record {
  fits = Divides-from_at (scale times head) p (λ i.
      let at : get_or (scale times head) i 0 ≡ times * get_or head i 0 = get_or-scale times head i in
      elim (cases_lt 0 (get_or head i 0)) [
        | inl positive ↦
            let clear : bit_at left i ≡ 0 = ap (λ x. bit_at x i) none ∙ bit_at-zero i in
            omega (arith, c.fits i ((s i).1 positive) clear)
        | inr zero_there ↦
            let nothing_there : get_or head i 0 ≡ 0 = omega arith in
            let product : times * get_or head i 0 ≡ 0 = subst (λ (x : ℕ). times * x ≡ 0) (sym nothing_there) (omega arith) in
            omega arith
      ]);
  most = λ n d.
      let r = positive_at head some in
      let at : get_or (scale n head) r.0 0 ≡ n * get_or head r.0 0 = get_or-scale n head r.0 in
      let fit : n * get_or head r.0 0 ≤ get_or p r.0 0 = omega (arith, Divides-at (scale n head) p d r.0) in
      c.most n (omega (arith, times_le n (get_or p r.0 0) (get_or head r.0 0) r.1 fit, small r.0)) d;
}
