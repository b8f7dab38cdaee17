-- What the rows at a point's places say of the heads, and the first head that divides the point.
use Rattle.std.proofs.Common.{ℕ, ◌+◌, ◌-◌, ◌*◌, ◌/◌, ◌%◌, ◌^◌, ◌≤◌, ◌<◌, ◌≡◌, inl, inr, min, Bool, true, false, cond, Some, None, List, [], ◌∷◌, length, map, get_or, refl, sym, ◌∙◌, subst, ap, arith, All, nat_lt, not, ap₂}
use Rattle.std.specs.Int.{bit_at, w128, bit_not}
use Rattle.std.specs.List.{position, position_or_len}
use lib.Bits.{bit_and}
use Rattle.std.proofs.lemmas.Nat.Bits.{bit_at-lt, bit_at_not}
use Rattle.std.proofs.lemmas.List.{get_or_default, get_or_past, get_or-map, length-map}
use Rattle.std.proofs.lemmas.List.Sums.{position_or_len_is}
use Rattle.std.proofs.lemmas.Bool.{cases_lt, cases_eq}
use Rattle.ct_vectors.specs.Vectors.{Divides, divides}
use Rattle.ct_vectors.proofs.Divisors.{Divides-from_test, test_from_Divides, Divides-at, Divides-from_at}
use Rattle.ct_index.specs.Table.{IsPast, IsAbove, row_count, IsTable, row_of, ArePlaces, IsExcluded, AreLow, LacksSome, LeavesOut, AreDecided}
use Rattle.ct_index.proofs.BitFacts.{bit_cases, IsLowest, cleared_set, cleared_kept}

-- ---- one head at the rows of a point

row_parts : (q a b : ℕ) → a < 4 → b < 4 → ((16 * q + 4 * a + b) / 16 ≡ q) × ((16 * q + 4 * a + b) % 16 / 4 ≡ a) × ((16 * q + 4 * a + b) % 4 ≡ b)
row_parts q a b l m = (omega arith, omega arith, omega arith)

not_past : (h p : List ℕ) (i : ℕ) → Divides h p → IsPast (min (get_or p i 0) 3) (get_or h i 0) → ⊥
not_past h p i d past = let le : get_or h i 0 ≤ get_or p i 0 = Divides-at h p d i in omega (arith, past.0, past.1)

above_not_divides : (h p : List ℕ) (q : ℕ) → IsAbove h (row_of p q) → Divides h p → ⊥
above_not_divides h p q above d =
    let parts = row_parts q (min (get_or p (2 * q) 0) 3) (min (get_or p (2 * q + 1) 0) 3) (omega arith) (omega arith) in
    elim above [
      | inl first ↦ not_past h p (2 * q) d (subst (λ (k : ℕ). IsPast (min (get_or p (2 * q) 0) 3) (get_or h (2 * k) 0)) parts.0 (subst (λ (l : ℕ). IsPast l (get_or h (2 * (row_of p q / 16)) 0)) parts.1 first))
      | inr second ↦ not_past h p (2 * q + 1) d (subst (λ (k : ℕ). IsPast (min (get_or p (2 * q + 1) 0) 3) (get_or h (2 * k + 1) 0)) parts.0 (subst (λ (l : ℕ). IsPast l (get_or h (2 * (row_of p q / 16) + 1) 0)) parts.2 second))
    ]

not_from : (h p : List ℕ) → (Divides h p → ⊥) → divides h p ≡ false
not_from h p never = go (divides h p) refl
  where
    go : (b : Bool) → divides h p ≡ b → divides h p ≡ false
    go true e = absurd (never (Divides-from_test h p e))
    go false e = e

-- a head below 4 in each coordinate divides p where it isn't above a row of p
low_divides : (h p : List ℕ) → length h ≡ length p → AreLow h → ((q : ℕ) → q < (length p + 1) / 2 → IsAbove h (row_of p q) → ⊥) → divides h p ≡ true
low_divides h p w low not = test_from_Divides h p (Divides-from_at h p at)
  where
    past : (k : ℕ) → k < length h → (IsPast (min (get_or p k 0) 3) (get_or h k 0) → ⊥) → get_or h k 0 ≤ get_or p k 0
    past k l n = elim (cases_lt (get_or p k 0) (get_or h k 0)) [
      | inl less ↦ let small : get_or h k 0 < 4 = low k 0 l in absurd (n (omega arith, omega arith))
      | inr le ↦ le
    ]

    first : (q : ℕ) → q < (length p + 1) / 2 → IsPast (min (get_or p (2 * q) 0) 3) (get_or h (2 * q) 0) → ⊥
    first q l x =
        let parts = row_parts q (min (get_or p (2 * q) 0) 3) (min (get_or p (2 * q + 1) 0) 3) (omega arith) (omega arith) in
        not q l (inl (subst (λ (l : ℕ). IsPast l (get_or h (2 * (row_of p q / 16)) 0)) (sym parts.1) (subst (λ (k : ℕ). IsPast (min (get_or p (2 * q) 0) 3) (get_or h (2 * k) 0)) (sym parts.0) x)))

    second : (q : ℕ) → q < (length p + 1) / 2 → IsPast (min (get_or p (2 * q + 1) 0) 3) (get_or h (2 * q + 1) 0) → ⊥
    second q l x =
        let parts = row_parts q (min (get_or p (2 * q) 0) 3) (min (get_or p (2 * q + 1) 0) 3) (omega arith) (omega arith) in
        not q l (inr (subst (λ (l : ℕ). IsPast l (get_or h (2 * (row_of p q / 16) + 1) 0)) (sym parts.2) (subst (λ (k : ℕ). IsPast (min (get_or p (2 * q + 1) 0) 3) (get_or h (2 * k + 1) 0)) (sym parts.0) x)))

    within : (k : ℕ) → k < length h → get_or h k 0 ≤ get_or p k 0
    within k l = elim (cases_eq (k % 2) 0) [
      | inl even ↦
          let e : 2 * (k / 2) ≡ k = omega arith in
          past k l (subst (λ (i : ℕ). IsPast (min (get_or p i 0) 3) (get_or h i 0) → ⊥) e (first (k / 2) (omega arith)))
      | inr odd ↦
          let e : 2 * (k / 2) + 1 ≡ k = omega arith in
          past k l (subst (λ (i : ℕ). IsPast (min (get_or p i 0) 3) (get_or h i 0) → ⊥) e (second (k / 2) (omega arith)))
    ]

    at : (k : ℕ) → get_or h k 0 ≤ get_or p k 0
    at k = elim (cases_lt k (length h)) [ inl l ↦ within k l | inr l ↦ omega (arith, get_or_past h k 0 l) ]

-- ---- all heads at the rows of a point

row_within : (p : List ℕ) (q : ℕ) → q < (length p + 1) / 2 → row_of p q < row_count (length p)
row_within p q l = omega arith

pub places_within : (rows p places : List ℕ) → ArePlaces p places → length rows ≡ row_count (length p) → All (λ r. r < length rows) places
places_within rows p places a e k d l =
    let at : get_or places k d ≡ row_of p k = get_or_default places k d 0 l ∙ a.at k l in
    omega (arith, row_within p k (omega (arith, a.count)), at, e)

module _ (heads : List (List ℕ)) (rows p places : List ℕ) (out : ℕ) (table : IsTable heads rows) (a : ArePlaces p places)
    (width : length rows ≡ row_count (length p)) (few : length heads ≤ 128) (fits : out < 2 ^ 128) (x : IsExcluded rows places (length places) out) where
  opposite : (j : ℕ) → j < length heads → bit_at (bit_not w128 out) j ≡ 1 - bit_at out j
  opposite j l = bit_at_not w128 out j fits (omega arith)

  pub leaves_out : LeavesOut heads p (bit_not w128 out)
  leaves_out j l clear =
      let not : bit_at (bit_not w128 out) j ≡ 1 - bit_at out j = opposite j l in
      let one : bit_at out j ≡ 1 = omega (arith, bit_at-lt out j) in
      let s = x.some j one in
      let row : row_of p s.0 < length rows = omega (arith, row_within p s.0 (omega (arith, s.1, a.count)), width) in
      let there : bit_at (get_or rows (row_of p s.0) 0) j ≡ 1 = subst (λ (r : ℕ). bit_at (get_or rows r 0) j ≡ 1) (a.at s.0 s.1) s.2 in
      not_from (get_or heads j []) p (above_not_divides (get_or heads j []) p s.0 ((table.bits (row_of p s.0) j row).0 there))

  pub are_decided : (decided : ℕ) → All (λ h. length h ≡ length p) heads → ((j : ℕ) → bit_at decided j ≡ 1 → (j < length heads) × AreLow (get_or heads j [])) →
      AreDecided heads p (bit_not w128 out) decided
  are_decided decided widths low j l one d =
      let not : bit_at (bit_not w128 out) j ≡ 1 - bit_at out j = opposite j l in
      let zero : bit_at out j ≡ 0 = omega (arith, bit_at-lt out j) in
      low_divides (get_or heads j []) p (widths j [] l) (low j d).1 (λ q m above.
      let within : q < length places = omega (arith, a.count) in
      let row : row_of p q < length rows = omega (arith, row_within p q m, width) in
      let there : bit_at (get_or rows (row_of p q) 0) j ≡ 1 = (table.bits (row_of p q) j row).1 above in
      let one : bit_at out j ≡ 1 = x.all j q within (subst (λ (r : ℕ). bit_at (get_or rows r 0) j ≡ 1) (sym (a.at q within)) there) in
      omega arith)

-- ---- the first that divides

position_or_len-map : {X : Type 0} (f : X → List ℕ) (test : List ℕ → Bool) (xs : List X) → position_or_len (λ x. test (f x)) xs ≡ position_or_len test (map f xs)
position_or_len-map f test [] = refl
position_or_len-map f test (x ∷ xs) = ap (λ (n : ℕ). cond (not (test (f x))) (1 + n) 0) (position_or_len-map f test xs)

pub position-map : {X : Type 0} (f : X → List ℕ) (test : List ℕ → Bool) (xs : List X) → position (λ x. test (f x)) xs ≡ position test (map f xs)
position-map f test xs = ap₂ (λ (n m : ℕ). cond (nat_lt n m) (Some n) None) (position_or_len-map f test xs) (sym (length-map xs f))

lt_true : (m n : ℕ) → m < n → nat_lt m n ≡ true
lt_true m n l = grind arith

lt_false : (m n : ℕ) → n ≤ m → nat_lt m n ≡ false
lt_false m n l = grind arith

pub position_here : {X : Type 0} (test : X → Bool) (xs : List X) (j : ℕ) (d : X) → j < length xs → ((k : ℕ) → k < j → test (get_or xs k d) ≡ false) → test (get_or xs j d) ≡ true → position test xs ≡ Some j
position_here test xs j d l before here =
    subst (λ (n : ℕ). cond (nat_lt n (length xs)) (Some n) None ≡ Some j) (sym (position_or_len_is test xs j d (omega arith) before (λ m. here)))
    (ap (λ (b : Bool). cond b (Some j) None) (lt_true j (length xs) l))

pub position_none : {X : Type 0} (test : X → Bool) (xs : List X) (d : X) → ((k : ℕ) → k < length xs → test (get_or xs k d) ≡ false) → position test xs ≡ None
position_none test xs d never =
    subst (λ (n : ℕ). cond (nat_lt n (length xs)) (Some n) None ≡ None) (sym (position_or_len_is test xs (length xs) d (omega arith) never (λ m. absurd (omega (arith, m)))))
    (ap (λ (b : Bool). cond b (Some (length xs)) None) (lt_false (length xs) (length xs) (omega arith)))

-- p lacks a coordinate that all heads have
pub lacking : (heads : List (List ℕ)) (p : List ℕ) (shared : ℕ) → ((j i : ℕ) → j < length heads → bit_at shared i ≡ 1 → 0 < get_or (get_or heads j []) i 0) → LacksSome shared p →
    (j : ℕ) → j < length heads → divides (get_or heads j []) p ≡ false
lacking heads p shared common s j l = not_from (get_or heads j []) p (λ d. omega (arith, Divides-at (get_or heads j []) p d s.0, common j s.0 l s.1, s.2))

-- what is read of the item with this index holds of the head with it
pub at_item : {X : Type 0} (f : X → List ℕ) (xs : List X) (j : ℕ) (x : X) (p : List ℕ) (b : Bool) → j < length xs → x ≡ get_or xs j x → divides (f x) p ≡ b →
    divides (get_or (map f xs) j []) p ≡ b
at_item f xs j x p b l at d = ap (λ h. divides h p) (get_or-map f xs j x [] l ∙ sym (ap f at)) ∙ d

-- what is known while candidates are left
pub record Trying (heads : List (List ℕ)) (p : List ℕ) (decided left : ℕ) : Type 0 where
  pub others : LeavesOut heads p left
  pub decides : AreDecided heads p left decided

-- the lowest candidate doesn't divide p
pub trying_more : (heads : List (List ℕ)) (p : List ℕ) (decided left j : ℕ) → IsLowest left j → divides (get_or heads j []) p ≡ false → Trying heads p decided left → Trying heads p decided (bit_and left (left - 1))
trying_more heads p decided left j low false_there t = record {
  others = λ i l z. elim (cases_eq i j) [
    | inl same ↦ subst (λ (k : ℕ). divides (get_or heads k []) p ≡ false) (sym same) false_there
    | inr other ↦ elim (bit_cases left i) [
      | inl clear ↦ t.others i l clear
      | inr set ↦ absurd (let kept : bit_at (bit_and left (left - 1)) i ≡ 1 = cleared_kept left j low i other set in omega arith)
    ]
  ];
  decides = λ i l one d. t.decides i l (cleared_set left i one) d;
}

-- the lowest candidate divides p
pub trying_found : (heads : List (List ℕ)) (p : List ℕ) (decided left j : ℕ) → ((i : ℕ) → i < j → bit_at left i ≡ 0) → j < length heads → divides (get_or heads j []) p ≡ true →
    Trying heads p decided left → position (λ h. divides h p) heads ≡ Some j
trying_found heads p decided left j lower l true_there t =
    position_here (λ h. divides h p) heads j [] l (λ k m. t.others k (omega arith) (lower k m)) true_there

-- no candidate is left
pub trying_none : (heads : List (List ℕ)) (p : List ℕ) (decided left : ℕ) → ((i : ℕ) → i < length heads → bit_at left i ≡ 0) → Trying heads p decided left →
    position (λ h. divides h p) heads ≡ None
trying_none heads p decided left clear t = position_none (λ h. divides h p) heads [] (λ k l. t.others k l (clear k l))
