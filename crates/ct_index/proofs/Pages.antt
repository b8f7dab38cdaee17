-- Lists in pages: one entry more, and the first entry that passes a test.
use Rattle.std.proofs.Common.{ℕ, ◌+◌, ◌-◌, ◌*◌, ◌/◌, ◌%◌, ◌≤◌, ◌<◌, ◌≡◌, ◌≢◌, inl, inr, Bool, false, Some, None, List, [], ◌∷◌, ◌++◌, length, get_or, set, take, drop, refl, sym, ◌∙◌, subst, ap, arith, All, suc, zero, append_assoc, append-nil, add-one}
use Rattle.std.specs.List.{flat_map, position, position_or_len}
use Rattle.std.proofs.lemmas.List.{get_or-set_same, get_or-set_other, length-set, get_or_append_left, get_or-append_right, get_or_push, length_push, length-append, take_more, take-append-drop, drop_more, get_or-append-add, drop_all, nil_from_length}
use Rattle.std.proofs.lemmas.List.Concat.{flat_map-append}
use Rattle.std.proofs.lemmas.List.Sums.{fails_before_first, passes_at_first}
use Rattle.std.proofs.lemmas.List.Quantifiers.{position-Some}
use Rattle.std.proofs.lemmas.Bool.{cases_eq, cases_lt}
use Rattle.ct_vectors.specs.declared.limits.TheConstants.{MOVE_LIMIT}
use Rattle.ct_index.specs.Pages.{ArePages, IsPaged}
use Rattle.ct_index.proofs.Lookups.{position_here, position_none}

-- ---- tests of a list

pub none_passes : {X : Type 0} (test : X → Bool) (xs : List X) (d : X) → position test xs ≡ None → (k : ℕ) → k < length xs → test (get_or xs k d) ≡ false
none_passes test xs d none k l = fails_before_first test xs k d (elim (cases_lt (position_or_len test xs) (length xs)) [
  | inl low ↦ absurd (some_there low)
  | inr high ↦ omega arith
])
  where
    some_there : position_or_len test xs < length xs → ⊥
    some_there low = let e : position test xs ≡ Some (position_or_len test xs) = position_here test xs (position_or_len test xs) d low (λ i m. fails_before_first test xs i d m) (passes_at_first test xs d low) in cc

pub position-append_none : {X : Type 0} (test : X → Bool) (xs ys : List X) (d : X) → position test xs ≡ None → position test ys ≡ None → position test (xs ++ ys) ≡ None
position-append_none test xs ys d a b = position_none test (xs ++ ys) d (λ k l. elim (cases_lt k (length xs)) [
  | inl low ↦ ap test (get_or_append_left xs ys d k low) ∙ none_passes test xs d a k low
  | inr high ↦
      ap test (get_or-append_right xs ys (length xs) k d refl high) ∙
      none_passes test ys d b (k - length xs) (omega (arith, length-append xs ys))
])

pub position-append_some : {X : Type 0} (test : X → Bool) (xs ys zs : List X) (d : X) (j : ℕ) → position test xs ≡ None → position test ys ≡ Some j → position test (xs ++ (ys ++ zs)) ≡ Some (length xs + j)
position-append_some test xs ys zs d j a b =
    let s = position-Some test ys j d b in
    position_here test (xs ++ (ys ++ zs)) (length xs + j) d (omega (arith, s.0, length-append xs (ys ++ zs), length-append ys zs))
    (λ k l. elim (cases_lt k (length xs)) [
      | inl low ↦ ap test (get_or_append_left xs (ys ++ zs) d k low) ∙ none_passes test xs d a k low
      | inr high ↦
          ap test (get_or-append_right xs (ys ++ zs) (length xs) k d refl high) ∙
          ap test (get_or_append_left ys zs d (k - length xs) (omega (arith, s.0))) ∙ s.2 (k - length xs) (omega arith)
    ])
    (ap test (get_or-append-add xs (ys ++ zs) j d) ∙ ap test (get_or_append_left ys zs d j s.0) ∙ s.1)

-- ---- pages

All-left : {X : Type 0} (A : X → Type 0) (xs ys : List X) → All A (xs ++ ys) → All A xs
All-left A xs ys a k d l = subst A (get_or_append_left xs ys d k l) (a k d (omega (arith, length-append xs ys)))

All-right : {X : Type 0} (A : X → Type 0) (xs ys : List X) → All A (xs ++ ys) → All A ys
All-right A xs ys a k d l = subst A (get_or-append-add xs ys k d) (a (length xs + k) d (omega (arith, length-append xs ys)))

module _ {P X : Type 0} (f : P → List X) where
  -- what holds of each entry holds of those of a page
  pub All-page : (A : X → Type 0) (pages : List P) (k : ℕ) (d : P) → k < length pages → All A (flat_map f pages) → All A (f (get_or pages k d))
  All-page A [] k d l a = absurd (omega arith)
  All-page A (page ∷ pages) zero d l a = All-left A (f page) (flat_map f pages) a
  All-page A (page ∷ pages) (suc k) d l a = All-page A pages k d (omega arith) (All-right A (f page) (flat_map f pages) a)

  -- another last page
  pub pages_set : (pages : List P) (k : ℕ) (page : P) → ArePages f pages → k + 1 ≡ length pages → length (f page) ≤ 128 → ArePages f (set pages k page)
  pages_set pages k page a last few = record {
    small = λ j d l. elim (cases_eq j k) [
      | inl same ↦ subst (λ x. length (f x) ≤ 128) (sym (ap (λ i. get_or (set pages k page) i d) same ∙ get_or-set_same pages k page d (omega arith))) few
      | inr other ↦ subst (λ x. length (f x) ≤ 128) (sym (get_or-set_other pages k j page d other)) (a.small j d (omega (arith, l, length-set pages k page)))
    ];
    full = λ j d l.
        let before : j ≢ k = omega (arith, l, length-set pages k page) in
        ap (λ x. length (f x)) (get_or-set_other pages k j page d before) ∙ a.full j d (omega (arith, l, length-set pages k page));
  }

  -- one page more, where all are full
  pub pages_push : (pages : List P) (page : P) → ((k : ℕ) (d : P) → k < length pages → length (f (get_or pages k d)) ≡ 128) → length (f page) ≤ 128 → ArePages f (pages ++ page ∷ [])
  pages_push pages page all few = record {
    small = λ j d l. elim (cases_lt j (length pages)) [
      | inl low ↦ subst (λ x. length (f x) ≤ 128) (sym (get_or_append_left pages (page ∷ []) d j low)) (omega (arith, all j d low))
      | inr high ↦ subst (λ x. length (f x) ≤ 128) (sym (get_or_push pages page d j (omega (arith, l, length_push pages page)))) few
    ];
    full = λ j d l.
        let low : j < length pages = omega (arith, l, length_push pages page) in
        ap (λ x. length (f x)) (get_or_append_left pages (page ∷ []) d j low) ∙ all j d low;
  }

  pub flat_map_push : (pages : List P) (page : P) → flat_map f (pages ++ page ∷ []) ≡ flat_map f pages ++ f page
  flat_map_push pages page = flat_map-append f pages (page ∷ []) ∙ ap (λ xs. flat_map f pages ++ xs) (append-nil (f page))

  pub flat_map-set : (pages : List P) (k : ℕ) (page : P) (xs : List X) → k + 1 ≡ length pages → f page ≡ f (get_or pages k page) ++ xs → flat_map f (set pages k page) ≡ flat_map f pages ++ xs
  flat_map-set [] k page xs l e = absurd (omega arith)
  flat_map-set (q ∷ []) zero page xs l e = append-nil (f page) ∙ e ∙ ap (λ ys. ys ++ xs) (sym (append-nil (f q)))
  flat_map-set (q ∷ r ∷ pages) zero page xs l e = absurd (omega arith)
  flat_map-set (q ∷ pages) (suc k) page xs l e = ap (λ ys. f q ++ ys) (flat_map-set pages k page xs (omega arith) e) ∙ sym (append_assoc (f q) (flat_map f pages) xs)

  -- the last page grows
  pub paged_set : (pages : List P) (k : ℕ) (page : P) (xs : List X) → IsPaged f pages → k + 1 ≡ length pages → f page ≡ f (get_or pages k page) ++ xs → length (f page) ≤ 128 →
      length (flat_map f pages) + length xs ≤ MOVE_LIMIT → IsPaged f (set pages k page)
  paged_set pages k page xs a l e few most = record {
    all = pages_set pages k page a.all l few;
    most = omega (arith, ap length (flat_map-set pages k page xs l e), length-append (flat_map f pages) xs, most);
  }

  -- a page is added
  pub paged_push : (pages : List P) (page : P) → IsPaged f pages → ((k : ℕ) → k + 1 ≡ length pages → (d : P) → length (f (get_or pages k d)) ≡ 128) → length (f page) ≤ 128 →
      length (flat_map f pages) + length (f page) ≤ MOVE_LIMIT → IsPaged f (pages ++ page ∷ [])
  paged_push pages page a last few most = record {
    all = pages_push pages page (λ k d l. elim (cases_eq (k + 1) (length pages)) [ inl same ↦ last k same d | inr other ↦ a.all.full k d (omega arith) ]) few;
    most = omega (arith, ap length (flat_map_push pages page), length-append (flat_map f pages) (f page), most);
  }

  flat_map_more : (pages : List P) (k : ℕ) (d : P) → k < length pages → flat_map f (take (k + 1) pages) ≡ flat_map f (take k pages) ++ f (get_or pages k d)
  flat_map_more pages k d l = ap (flat_map f) (take_more pages k d l) ∙ flat_map_push (take k pages) (get_or pages k d)

  -- the pages before one are full
  pub length_before : (pages : List P) (d : P) → ArePages f pages → (k : ℕ) → k < length pages → length (flat_map f (take k pages)) ≡ 128 * k
  length_before pages d a zero l = refl
  length_before pages d a (suc k) l =
      let more : flat_map f (take (suc k) pages) ≡ flat_map f (take k pages) ++ f (get_or pages k d) = subst (λ (n : ℕ). flat_map f (take n pages) ≡ flat_map f (take k pages) ++ f (get_or pages k d)) (add-one k) (flat_map_more pages k d (omega arith)) in
      let before : length (flat_map f (take k pages)) ≡ 128 * k = length_before pages d a k (omega arith) in
      let whole : length (f (get_or pages k d)) ≡ 128 = a.full k d (omega arith) in
      ap length more ∙ length-append (flat_map f (take k pages)) (f (get_or pages k d)) ∙ omega (arith, before, whole)

  -- before a page, the page and what follows
  pub flat_map_at : (pages : List P) (k : ℕ) (d : P) → k < length pages → flat_map f pages ≡ flat_map f (take k pages) ++ (f (get_or pages k d) ++ flat_map f (drop (k + 1) pages))
  flat_map_at pages k d l =
      ap (flat_map f) (sym (take-append-drop k pages)) ∙ flat_map-append f (take k pages) (drop k pages) ∙ ap (λ r. flat_map f (take k pages) ++ flat_map f r) (drop_more pages k d l)

  -- no entry of the page passes, and none before
  pub scanned_more : (test : X → Bool) (pages : List P) (k : ℕ) (d : P) (e : X) → k < length pages → position test (flat_map f (take k pages)) ≡ None → position test (f (get_or pages k d)) ≡ None →
      position test (flat_map f (take (k + 1) pages)) ≡ None
  scanned_more test pages k d e l before here = ap (position test) (flat_map_more pages k d l) ∙ position-append_none test (flat_map f (take k pages)) (f (get_or pages k d)) e before here

  -- an entry of the page is the first that passes
  pub scanned_found : (test : X → Bool) (pages : List P) (k j : ℕ) (d : P) (e : X) → ArePages f pages → k < length pages → position test (flat_map f (take k pages)) ≡ None →
      position test (f (get_or pages k d)) ≡ Some j → position test (flat_map f pages) ≡ Some (128 * k + j)
  scanned_found test pages k j d e a l before here =
      ap (position test) (flat_map_at pages k d l) ∙
      position-append_some test (flat_map f (take k pages)) (f (get_or pages k d)) (flat_map f (drop (k + 1) pages)) e j before here ∙
      ap (λ n. Some (n + j)) (length_before pages d a k l)

  -- the entry with an index is found by dividing
  pub paged_length : (pages : List P) (k : ℕ) (d : P) → ArePages f pages → k + 1 ≡ length pages → length (flat_map f pages) ≡ 128 * k + length (f (get_or pages k d))
  paged_length pages k d a last =
      let rest : drop (k + 1) pages ≡ [] = drop_all (k + 1) pages (omega arith) in
      let at : flat_map f pages ≡ flat_map f (take k pages) ++ (f (get_or pages k d) ++ []) = subst (λ r. flat_map f pages ≡ flat_map f (take k pages) ++ (f (get_or pages k d) ++ flat_map f r)) rest (flat_map_at pages k d (omega arith)) in
      omega (arith, ap length at, length-append (flat_map f (take k pages)) (f (get_or pages k d) ++ []), length-append {A = X} (f (get_or pages k d)) [], length_before pages d a k (omega arith))

  pub paged_within : (pages : List P) (n : ℕ) (d : P) → ArePages f pages → n < length (flat_map f pages) → (n / 128 < length pages) × (n % 128 < length (f (get_or pages (n / 128) d)))
  paged_within pages n d a l = elim (cases_lt (n / 128) (length pages)) [
    | inl low ↦ (
      low,
      elim (cases_eq (n / 128 + 1) (length pages)) [
        | inl last ↦ omega (arith, paged_length pages (n / 128) d a last)
        | inr more ↦ omega (arith, a.full (n / 128) d (omega arith))
      ],
    )
    | inr high ↦ absurd (elim (cases_eq (length pages) 0) [
      | inl none ↦ omega (arith, ap (λ ps. length (flat_map f ps)) (nil_from_length pages none))
      | inr some ↦
          let last : length pages - 1 + 1 ≡ length pages = omega arith in
          omega (arith, paged_length pages (length pages - 1) d a last, a.small (length pages - 1) d (omega arith))
    ])
  ]

  pub paged_at : (pages : List P) (n : ℕ) (d : P) (e : X) → ArePages f pages → n < length (flat_map f pages) → get_or (flat_map f pages) n e ≡ get_or (f (get_or pages (n / 128) d)) (n % 128) e
  paged_at pages n d e a l =
      let w = paged_within pages n d a l in
      let front : length (flat_map f (take (n / 128) pages)) ≡ 128 * (n / 128) = length_before pages d a (n / 128) w.0 in
      let index : n - 128 * (n / 128) ≡ n % 128 = omega arith in
      ap (λ xs. get_or xs n e) (flat_map_at pages (n / 128) d w.0) ∙
      get_or-append_right (flat_map f (take (n / 128) pages)) (f (get_or pages (n / 128) d) ++ flat_map f (drop (n / 128 + 1) pages)) (128 * (n / 128)) n e front (omega arith) ∙
      ap (λ i. get_or (f (get_or pages (n / 128) d) ++ flat_map f (drop (n / 128 + 1) pages)) i e) index ∙
      get_or_append_left (f (get_or pages (n / 128) d)) (flat_map f (drop (n / 128 + 1) pages)) e (n % 128) w.1

  -- without a page at hand
  pub paged_page : (pages : List P) (n : ℕ) → ArePages f pages → n < length (flat_map f pages) → n / 128 < length pages
  paged_page [] n a l = absurd (omega arith)
  paged_page (page ∷ pages) n a l = (paged_within (page ∷ pages) n page a l).0

  pub paged_count : (pages : List P) → ArePages f pages → 128 * (length pages - 1) ≤ length (flat_map f pages)
  paged_count [] a = omega arith
  paged_count (page ∷ pages) a = omega (arith, paged_length (page ∷ pages) (length pages) page a (omega arith))
