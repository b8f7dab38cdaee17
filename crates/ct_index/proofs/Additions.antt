-- One head more in the index of a block.
use Rattle.std.proofs.Common.{ℕ, ◌+◌, ◌<◌, ◌≡◌, ◌≢◌, ◌↔◌, inl, inr, min, List, [], ◌∷◌, ◌++◌, length, get_or, replicate, refl, sym, ◌∙◌, subst, ap, arith, All, Result, Ok, Err}
use Rattle.std.specs.Int.{bit_at}
use Rattle.std.specs.Result.{OnErr}
use lib.Bits.{bit_and}
use Rattle.std.proofs.lemmas.Nat.Bits.{bit_at-lt, bit_at-zero, bit_at_and}
use Rattle.std.proofs.lemmas.List.{get_or_past, get_or-replicate, get_or_append_left, get_or_push, length_push, length-replicate}
use Rattle.std.proofs.lemmas.List.Elements.{All-push}
use Rattle.std.proofs.lemmas.Bool.{cases_lt, cases_eq}
use Rattle.ct_index.specs.Table.{IsAbove, row_count, AreMarked, IsDecided, AreLow, IsSupport, IsBlock}

-- what holds at all holds at an `Err`
pub on_err : {T E P : Type 0} (r : Result T E) → P → OnErr r P
on_err (Ok x) p = tt
on_err (Err e) p = p

-- ---- a head that isn't there is in no row

none_above : (r : ℕ) → IsAbove [] r → ⊥
none_above r a = elim a [ inl x ↦ omega (arith, x.1) | inr x ↦ omega (arith, x.1) ]

-- the list with one more: before it, there, and behind
pub get_or-more : (heads : List (List ℕ)) (head : List ℕ) (j : ℕ) → j ≢ length heads → get_or (heads ++ head ∷ []) j [] ≡ get_or heads j []
get_or-more heads head j n = elim (cases_lt j (length heads)) [
  | inl l ↦ get_or_append_left heads (head ∷ []) [] j l
  | inr l ↦
      let whole : length (heads ++ head ∷ []) ≡ length heads + 1 = length_push heads head in
      get_or_past (heads ++ head ∷ []) j [] (omega arith) ∙ sym (get_or_past heads j [] l)
]

-- ---- the index of no heads, with a table of the right width

pub block_open : (width : ℕ) (rows supports : List ℕ) (decided shared : ℕ) → IsBlock [] rows supports decided shared → IsBlock [] (replicate (row_count width) 0) supports decided shared
block_open width rows supports decided shared b = record {
  few = b.few;
  table = record {
    wide = λ k d l. absurd (omega (arith, l));
    bits = λ r j l. (
      λ one. absurd (
          let z : bit_at (get_or (replicate (row_count width) 0) r 0) j ≡ 0 = ap (λ x. bit_at x j) (get_or-replicate (row_count width) r 0 0 (omega (arith, length-replicate {A = ℕ} (row_count width) 0))) ∙ bit_at-zero j in
          omega arith),
      λ a. absurd (none_above r a),
    );
  };
  low = b.low;
  one_each = b.one_each;
  support = b.support;
  common = b.common;
}

-- the index of equal parts
pub block_same : (heads : List (List ℕ)) (rows rows' supports supports' : List ℕ) (decided decided' shared shared' : ℕ) → rows' ≡ rows → supports' ≡ supports → decided' ≡ decided → shared' ≡ shared →
    IsBlock heads rows supports decided shared → IsBlock heads rows' supports' decided' shared'
block_same heads rows rows' supports supports' decided decided' shared shared' r s d h b =
    subst (λ (x : List ℕ). IsBlock heads x supports' decided' shared') (sym r)
    (subst (λ (x : List ℕ). IsBlock heads rows x decided' shared') (sym s)
    (subst (λ (x : ℕ). IsBlock heads rows supports x shared') (sym d)
    (subst (λ (x : ℕ). IsBlock heads rows supports decided x) (sym h) b)))

-- what has heads has a table of their width
pub width_from : (heads : List (List ℕ)) (head rows supports : List ℕ) (decided shared : ℕ) → 0 < length heads → All (λ h. length h ≡ length head) heads → IsBlock heads rows supports decided shared →
    length rows ≡ row_count (length head)
width_from heads head rows supports decided shared some widths b = b.table.wide 0 [] some ∙ ap row_count (widths 0 [] some)

-- ---- one head more

module _ (heads : List (List ℕ)) (head rows new supports : List ℕ) (decided decides shared support : ℕ) (room : length heads < 128)
    (widths : All (λ h. length h ≡ length head) heads) (b : IsBlock heads rows supports decided shared) (width : length rows ≡ row_count (length head))
    (m : AreMarked rows new head (length heads)) (s : IsSupport head support) (d : IsDecided decided decides head (length heads)) where
  last : get_or (heads ++ head ∷ []) (length heads) [] ≡ head
  last = get_or_push heads head [] (length heads) refl

  count : length (heads ++ head ∷ []) ≡ length heads + 1
  count = length_push heads head

  marked : (r j : ℕ) → r < length rows → (bit_at (get_or new r 0) j ≡ 1) ↔ IsAbove (get_or (heads ++ head ∷ []) j []) r
  marked r j l = elim (cases_eq j (length heads)) [
    | inl same ↦
        let there : get_or (heads ++ head ∷ []) j [] ≡ head = ap (λ k. get_or (heads ++ head ∷ []) k []) same ∙ last in (
          λ one. subst (λ h. IsAbove h r) (sym there) (elim ((m.bits r j l).0 one) [
            | inl old ↦ absurd (none_above r (subst (λ h. IsAbove h r) (get_or_past heads j [] (omega arith)) ((b.table.bits r j l).0 old)))
            | inr x ↦ x.1
          ]),
          λ above. (m.bits r j l).1 (inr (same, subst (λ h. IsAbove h r) there above)),
        )
    | inr other ↦ (
      λ one. subst (λ h. IsAbove h r) (sym (get_or-more heads head j other)) (elim ((m.bits r j l).0 one) [
        | inl old ↦ (b.table.bits r j l).0 old
        | inr x ↦ absurd (other x.0)
      ]),
      λ above. (m.bits r j l).1 (inl ((b.table.bits r j l).1 (subst (λ h. IsAbove h r) (get_or-more heads head j other) above))),
    )
  ]

  wide_before : All (λ h. length new ≡ row_count (length h)) heads
  wide_before k e l = m.count ∙ b.table.wide k e l

  lows : (j : ℕ) → bit_at decides j ≡ 1 → (j < length (heads ++ head ∷ [])) × AreLow (get_or (heads ++ head ∷ []) j [])
  lows j one = elim (d j one) [
    | inl old ↦
        let x = b.low j old in
        (omega (arith, x.0, count), subst AreLow (sym (get_or-more heads head j (omega (arith, x.0)))) x.1)
    | inr x ↦ (omega (arith, x.0, count), subst AreLow (sym (ap (λ k. get_or (heads ++ head ∷ []) k []) x.0 ∙ last)) x.1)
  ]

  supported : (j : ℕ) → j < length (heads ++ head ∷ []) → IsSupport (get_or (heads ++ head ∷ []) j []) (get_or (supports ++ support ∷ []) j 0)
  supported j l i = elim (cases_eq j (length heads)) [
    | inl same ↦
        let h : get_or (heads ++ head ∷ []) j [] ≡ head = ap (λ k. get_or (heads ++ head ∷ []) k []) same ∙ last in
        let t : get_or (supports ++ support ∷ []) j 0 ≡ support = get_or_push supports support 0 j (b.one_each ∙ sym same) in
        subst (λ x. (bit_at (get_or (supports ++ support ∷ []) j 0) i ≡ 1) ↔ (0 < get_or x i 0)) (sym h)
        (subst (λ (x : ℕ). (bit_at x i ≡ 1) ↔ (0 < get_or head i 0)) (sym t) (s i))
    | inr other ↦
        let before : j < length heads = omega (arith, count) in
        let t : get_or (supports ++ support ∷ []) j 0 ≡ get_or supports j 0 = get_or_append_left supports (support ∷ []) 0 j (omega (arith, b.one_each)) in
        subst (λ x. (bit_at (get_or (supports ++ support ∷ []) j 0) i ≡ 1) ↔ (0 < get_or x i 0)) (sym (get_or-more heads head j other))
        (subst (λ (x : ℕ). (bit_at x i ≡ 1) ↔ (0 < get_or (get_or heads j []) i 0)) (sym t) (b.support j before i))
  ]

  commons : (j i : ℕ) → j < length (heads ++ head ∷ []) → bit_at (bit_and shared support) i ≡ 1 → 0 < get_or (get_or (heads ++ head ∷ []) j []) i 0
  commons j i l one =
      let both : bit_at (bit_and shared support) i ≡ min (bit_at shared i) (bit_at support i) = bit_at_and shared support i in
      let in-shared : bit_at shared i ≡ 1 = omega (arith, bit_at-lt shared i) in
      let in-support : bit_at support i ≡ 1 = omega (arith, bit_at-lt support i) in
      elim (cases_eq j (length heads)) [
        | inl same ↦ subst (λ x. 0 < get_or x i 0) (sym (ap (λ k. get_or (heads ++ head ∷ []) k []) same ∙ last)) ((s i).0 in-support)
        | inr other ↦ subst (λ x. 0 < get_or x i 0) (sym (get_or-more heads head j other)) (b.common j i (omega (arith, count)) in-shared)
      ]

  pub block_more : IsBlock (heads ++ head ∷ []) new (supports ++ support ∷ []) decides (bit_and shared support)
  block_more = record {
    few = omega (arith, count);
    table = record {
      wide = All-push (λ h. length new ≡ row_count (length h)) heads head wide_before (m.count ∙ width);
      bits = λ r j l. marked r j (omega (arith, l, m.count));
    };
    low = lows;
    one_each = length_push supports support ∙ ap (λ n. n + 1) b.one_each ∙ sym count;
    support = supported;
    common = commons;
  }
