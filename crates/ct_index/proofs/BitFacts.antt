-- The bits of rows, masks and candidates, one step of each loop.
use Rattle.std.proofs.Common.{ℕ, ◌+◌, ◌-◌, ◌*◌, ◌/◌, ◌%◌, ◌^◌, ◌≤◌, ◌<◌, ◌≡◌, ◌≢◌, ◌⊎◌, ◌↔◌, inl, inr, min, max, List, length, get_or, sym, ◌∙◌, subst, ap, arith, set, zero, suc}
use Rattle.std.specs.Int.{bit_at, w128, trailing_zeros}
use Rattle.std.specs.Int.RustNames.{bit_or}
use lib.Bits.{bit_and}
use Rattle.std.proofs.Math.Nat.{mod-lt}
use Rattle.std.proofs.lemmas.Nat.{and_le_r, shr_split, pow_pos}
use Rattle.std.proofs.lemmas.Nat.Bits.{bit_at-lt, bit_at_or, bit_at_and, bit_at_set_same, bit_at_set_other, bit_at-trailing_zeros, bit_at-zero, bit_at-suc, bit_at_cat_low, bit_at_cat_high, same_from_bits_below}
use Rattle.std.proofs.lemmas.List.{get_or-set_same, get_or-set_other, get_or_past}
use Rattle.std.proofs.lemmas.Bool.{cases_eq, cases_lt}
use Rattle.ct_index.specs.Table.{IsAbove, IsExcluded, IsSupport, IsDecided, AreLow}

pub bit_cases : (n j : ℕ) → (bit_at n j ≡ 0) ⊎ (bit_at n j ≡ 1)
bit_cases n j = let l : bit_at n j < 2 = bit_at-lt n j in grind arith

-- ---- the rows where a point is looked up

pub excluded_more : (rows places : List ℕ) (n out row : ℕ) → row ≡ get_or rows (get_or places n 0) 0 → IsExcluded rows places n out → IsExcluded rows places (n + 1) (bit_or out row)
excluded_more rows places n out row is e = record {
  some = λ j b.
      let either : bit_at (bit_or out row) j ≡ max (bit_at out j) (bit_at row j) = bit_at_or out row j in
      elim (bit_cases out j) [
        | inl clear ↦
            let here : bit_at row j ≡ 1 = omega (arith, bit_at-lt row j) in
            (n, omega arith, sym (ap (λ x. bit_at x j) is) ∙ here)
        | inr one ↦ let s = e.some j one in (s.0, omega (arith, s.1), s.2)
      ];
  all = λ j q l b.
      let either : bit_at (bit_or out row) j ≡ max (bit_at out j) (bit_at row j) = bit_at_or out row j in
      let low : bit_at out j < 2 = bit_at-lt out j in
      let here : bit_at row j < 2 = bit_at-lt row j in
      elim (cases_eq q n) [
        | inl same ↦
            let at : bit_at row j ≡ 1 = ap (λ x. bit_at x j) is ∙ subst (λ (k : ℕ). bit_at (get_or rows (get_or places k 0) 0) j ≡ 1) same b in
            omega arith
        | inr other ↦ let before : bit_at out j ≡ 1 = e.all j q (omega arith) b in omega arith
      ];
}

-- ---- a head in the table

-- as AreMarked, with the rows below n alone
abbrev pub AreMarkedTo : List ℕ → List ℕ → List ℕ → ℕ → ℕ → Type 0
AreMarkedTo old new head index n =
    (r j : ℕ) → (bit_at (get_or new r 0) j ≡ 1) ↔ ((bit_at (get_or old r 0) j ≡ 1) ⊎ ((r < n) × (j ≡ index) × IsAbove head r))

-- the row n isn't one of the head's
pub marked_not : (old new head : List ℕ) (index n : ℕ) → (IsAbove head n → ⊥) → AreMarkedTo old new head index n → AreMarkedTo old new head index (n + 1)
marked_not old new head index n not m r j = (
  λ b. elim ((m r j).0 b) [ inl o ↦ inl o | inr x ↦ inr (omega (arith, x.0), x.1, x.2) ],
  λ e. (m r j).1 (elim e [
    | inl o ↦ inl o
    | inr x ↦ elim (cases_eq r n) [
      | inl same ↦ absurd (not (subst (IsAbove head) same x.2))
      | inr other ↦ inr (omega (arith, x.0), x.1, x.2)
    ]
  ]),
)

pub marked_more : (old new head : List ℕ) (index n : ℕ) → n < length new → index < 128 → IsAbove head n → AreMarkedTo old new head index n →
    AreMarkedTo old (set new n (bit_or (get_or new n 0) (1 * 2 ^ index % 2 ^ 128))) head index (n + 1)
marked_more old new head index n l small above m r j = (
  λ b. elim (cases_eq r n) [
    | inl same ↦ elim (cases_eq j index) [
      | inl e ↦ inr (omega arith, e, subst (IsAbove head) (sym same) above)
      | inr d ↦ onward r j ((m r j).0 (back r j same d b))
    ]
    | inr other ↦ onward r j ((m r j).0 (sym (ap (λ x. bit_at x j) (get_or-set_other new n r _ 0 other)) ∙ b))
  ],
  λ e. elim (cases_eq r n) [
    | inl same ↦ elim (cases_eq j index) [
      | inl f ↦ here r j same f
      | inr d ↦ forth r j same d ((m r j).1 (elim e [ inl o ↦ inl o | inr x ↦ absurd (d x.1) ]))
    ]
    | inr other ↦ ap (λ x. bit_at x j) (get_or-set_other new n r _ 0 other) ∙ (m r j).1 (elim e [ inl o ↦ inl o | inr x ↦ inr (omega (arith, x.0), x.1, x.2) ])
  ],
)
  where
    row : ℕ
    row = bit_or (get_or new n 0) (1 * 2 ^ index % 2 ^ 128)

    at_row : (r : ℕ) → r ≡ n → get_or (set new n row) r 0 ≡ row
    at_row r same = ap (λ k. get_or (set new n row) k 0) same ∙ get_or-set_same new n row 0 l

    onward : (r j : ℕ) → (bit_at (get_or old r 0) j ≡ 1) ⊎ ((r < n) × (j ≡ index) × IsAbove head r) → (bit_at (get_or old r 0) j ≡ 1) ⊎ ((r < n + 1) × (j ≡ index) × IsAbove head r)
    onward r j e = elim e [ inl o ↦ inl o | inr x ↦ inr (omega (arith, x.0), x.1, x.2) ]

    here : (r j : ℕ) → r ≡ n → j ≡ index → bit_at (get_or (set new n row) r 0) j ≡ 1
    here r j same f = ap (λ x. bit_at x j) (at_row r same) ∙ ap (bit_at row) f ∙ bit_at_set_same w128 (get_or new n 0) index small

    back : (r j : ℕ) → r ≡ n → j ≢ index → bit_at (get_or (set new n row) r 0) j ≡ 1 → bit_at (get_or new r 0) j ≡ 1
    back r j same d b = ap (λ k. bit_at (get_or new k 0) j) same ∙ sym (bit_at_set_other w128 (get_or new n 0) index small j d) ∙ sym (ap (λ x. bit_at x j) (at_row r same)) ∙ b

    forth : (r j : ℕ) → r ≡ n → j ≢ index → bit_at (get_or new r 0) j ≡ 1 → bit_at (get_or (set new n row) r 0) j ≡ 1
    forth r j same d b = ap (λ x. bit_at x j) (at_row r same) ∙ bit_at_set_other w128 (get_or new n 0) index small j d ∙ sym (ap (λ k. bit_at (get_or new k 0) j) same) ∙ b

pub marked_all : (old new head : List ℕ) (index n : ℕ) → AreMarkedTo old new head index n → (r j : ℕ) → r < n →
    (bit_at (get_or new r 0) j ≡ 1) ↔ ((bit_at (get_or old r 0) j ≡ 1) ⊎ ((j ≡ index) × IsAbove head r))
marked_all old new head index n m r j l = (
  λ b. elim ((m r j).0 b) [ inl o ↦ inl o | inr x ↦ inr (x.1, x.2) ],
  λ e. (m r j).1 (elim e [ inl o ↦ inl o | inr x ↦ inr (l, x.0, x.1) ]),
)

-- ---- the support

-- as IsSupport, of the coordinates below n alone
abbrev pub IsSupportTo : List ℕ → ℕ → ℕ → Type 0
IsSupportTo p n mask = (i : ℕ) → (bit_at mask i ≡ 1) ↔ ((i < n) × (0 < get_or p i 0))

pub support_not : (p : List ℕ) (n mask : ℕ) → get_or p n 0 ≡ 0 → IsSupportTo p n mask → IsSupportTo p (n + 1) mask
support_not p n mask none s i = (
  λ b. let x = (s i).0 b in (omega (arith, x.0), x.1),
  λ x. elim (cases_eq i n) [
    | inl same ↦ absurd (omega (arith, x.1, none, ap (λ k. get_or p k 0) same))
    | inr other ↦ (s i).1 (omega (arith, x.0), x.1)
  ],
)

pub support_more : (p : List ℕ) (n mask : ℕ) → n < 128 → 0 < get_or p n 0 → IsSupportTo p n mask → IsSupportTo p (n + 1) (bit_or mask (1 * 2 ^ n % 2 ^ 128))
support_more p n mask small positive s i = (
  λ b. elim (cases_eq i n) [
    | inl same ↦ (omega arith, subst (λ k. 0 < get_or p k 0) (sym same) positive)
    | inr other ↦ let x = (s i).0 (sym (bit_at_set_other w128 mask n small i other) ∙ b) in (omega (arith, x.0), x.1)
  ],
  λ x. elim (cases_eq i n) [
    | inl same ↦ ap (bit_at (bit_or mask (1 * 2 ^ n % 2 ^ 128))) same ∙ bit_at_set_same w128 mask n small
    | inr other ↦ bit_at_set_other w128 mask n small i other ∙ (s i).1 (omega (arith, x.0), x.1)
  ],
)

pub support_all : (p : List ℕ) (n mask : ℕ) → length p ≤ n → IsSupportTo p n mask → IsSupport p mask
support_all p n mask l s i = (
  λ b. ((s i).0 b).1,
  λ x. elim (cases_lt i n) [
    | inl within ↦ (s i).1 (within, x)
    | inr past ↦ absurd (omega (arith, x, get_or_past p i 0 (omega arith)))
  ],
)

-- ---- the bits left to try

-- the lowest bit of a number that isn't 0 is the one with this index
pub record IsLowest (n j : ℕ) : Type 0 where
  pub below : j < 128
  pub set : bit_at n j ≡ 1
  pub none : (i : ℕ) → i < j → bit_at n i ≡ 0

pub lowest : (n : ℕ) → 0 < n → n < 2 ^ 128 → IsLowest n (trailing_zeros w128 n)
lowest n some fits = let low = bit_at-trailing_zeros w128 n some fits in record { below = low.0; set = low.1; none = low.2 }

-- what is left without it is smaller, and has no bit more
pub cleared_smaller : (n : ℕ) → 0 < n → bit_and n (n - 1) < n
cleared_smaller n some = let le : bit_and n (n - 1) ≤ n - 1 = and_le_r n (n - 1) in omega arith

pub cleared_set : (n i : ℕ) → bit_at (bit_and n (n - 1)) i ≡ 1 → bit_at n i ≡ 1
cleared_set n i one =
    let both : bit_at (bit_and n (n - 1)) i ≡ min (bit_at n i) (bit_at (n - 1) i) = bit_at_and n (n - 1) i in
    omega (arith, bit_at-lt n i)

half : (m : ℕ) → m % 2 ≡ 1 → (m - 1) / 2 ≡ m / 2
half m odd = omega arith

-- and each other bit: n is m * 2 ^ j with m odd, and n - 1 is (m - 1) * 2 ^ j + (2 ^ j - 1)
pub cleared_kept : (n j : ℕ) → IsLowest n j → (i : ℕ) → i ≢ j → bit_at n i ≡ 1 → bit_at (bit_and n (n - 1)) i ≡ 1
cleared_kept n j low i other one =
    let both : bit_at (bit_and n (n - 1)) i ≡ min (bit_at n i) (bit_at (n - 1) i) = bit_at_and n (n - 1) i in
    let lesser : bit_at (n - 1) i ≡ 1 = above (i - j - 1) (omega (arith, later)) in
    omega arith
  where
    later : j < i
    later = elim (cases_lt i j) [ inl l ↦ absurd (omega (arith, low.none i l)) | inr l ↦ omega arith ]

    m : ℕ
    m = n / 2 ^ j

    rest : n % 2 ^ j ≡ 0
    rest = same_from_bits_below j (n % 2 ^ j) 0 (mod-lt n (pow_pos j)) (pow_pos j) (λ k l.
        sym (bit_at_cat_low (n / 2 ^ j) j (n % 2 ^ j) k l) ∙ ap (λ x. bit_at x k) (shr_split n j) ∙ low.none k l ∙ sym (bit_at-zero k))

    whole : n ≡ n / 2 ^ j * 2 ^ j + 0
    whole = sym (shr_split n j) ∙ ap (λ r. n / 2 ^ j * 2 ^ j + r) rest

    odd : (n / 2 ^ j) % 2 ≡ 1
    odd = low.set

    less : n - 1 ≡ (n / 2 ^ j - 1) * 2 ^ j + (2 ^ j - 1)
    less = minus (n / 2 ^ j) (2 ^ j) n (pow_pos j) (omega (arith, odd)) (omega (arith, whole))
      where
        minus : (a b n : ℕ) → 0 < b → 0 < a → n ≡ a * b → n - 1 ≡ (a - 1) * b + (b - 1)
        minus zero b n some pos e = absurd (omega arith)
        minus (suc a) b n some pos e =
            let less : suc a - 1 ≡ a = omega arith in
            let whole : n ≡ a * b + b = omega arith in
            subst (λ (x : ℕ). n - 1 ≡ x * b + (b - 1)) (sym less) (omega arith)

    above : (k : ℕ) → i ≡ j + suc k → bit_at (n - 1) i ≡ 1
    above k at =
        let gap : i - j ≡ suc k = omega arith in
        let small : 2 ^ j - 1 < 2 ^ j = omega (arith, pow_pos j) in
        let here : bit_at n i ≡ bit_at (n / 2 ^ j) (suc k) = ap (λ x. bit_at x i) whole ∙ bit_at_cat_high (n / 2 ^ j) j 0 i (pow_pos j) (omega arith) ∙ ap (bit_at (n / 2 ^ j)) gap in
        ap (λ x. bit_at x i) less ∙ bit_at_cat_high (n / 2 ^ j - 1) j (2 ^ j - 1) i small (omega arith) ∙ ap (bit_at (n / 2 ^ j - 1)) gap ∙
        bit_at-suc (n / 2 ^ j - 1) k ∙ ap (λ x. bit_at x k) (half (n / 2 ^ j) odd) ∙ sym (bit_at-suc (n / 2 ^ j) k) ∙ sym here ∙ one

-- ---- the heads that the table decides

pub decided_more : (decided : ℕ) (head : List ℕ) (index : ℕ) → index < 128 → AreLow head → IsDecided decided (bit_or decided (1 * 2 ^ index % 2 ^ 128)) head index
decided_more decided head index small low j one = elim (cases_eq j index) [
  | inl same ↦ inr (same, low)
  | inr other ↦ inl (sym (bit_at_set_other w128 decided index small j other) ∙ one)
]
