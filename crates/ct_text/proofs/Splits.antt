-- The pieces of a text, the first one taken off.
use Rattle.std.proofs.Common.{◌≡◌, ◌≢◌, ◌≤◌, ◌&&◌, ◌++◌, eq-eqb, ◌<◌, not, length, inl, inr, ℕ, suc, ◌+◌, Bool, true, false, eqb, List, [], ◌∷◌, take, drop, refl, sym, ap, ◌∙◌, arith}
use Rattle.std.specs.List.{onto_first, AllByRecursion, join_with_byte}
use Rattle.std.proofs.lemmas.List.{append-nil}
use Rattle.std.proofs.lemmas.List.Splits.{join_with_byte-slice_split}
use Rattle.ct_text.specs.PiecesLaw.{lacks, ArePieces}
use Rattle.std.proofs.lemmas.Bool.{cases_Bool}
use Rattle.std.proofs.lemmas.List.Sums.{prefix_len-le-length}
use Rattle.ct_text.specs.Pieces.{split, first_len, pieces_left}

-- no piece holds the separator
abbrev pub Lack : ℕ → List (List ℕ) → Type 0
Lack separator pieces = AllByRecursion (λ piece. lacks separator piece ≡ true) pieces

-- the pieces after the first: what is left begins with a separator
abbrev pub pieces_after : ℕ → List ℕ → List (List ℕ)
pieces_after separator [] = []
pieces_after separator (byte ∷ bytes) = split separator bytes

at_separator : (separator byte : ℕ) (bytes : List ℕ) → eqb byte separator ≡ true → split separator (byte ∷ bytes) ≡ take (first_len separator (byte ∷ bytes)) (byte ∷ bytes) ∷ pieces_after separator (drop (first_len separator (byte ∷ bytes)) (byte ∷ bytes))
at_separator separator byte bytes same = rw same refl

before_separator : (separator byte : ℕ) (bytes : List ℕ) → eqb byte separator ≡ false → split separator bytes ≡ take (first_len separator bytes) bytes ∷ pieces_after separator (drop (first_len separator bytes) bytes)
    → split separator (byte ∷ bytes) ≡ take (first_len separator (byte ∷ bytes)) (byte ∷ bytes) ∷ pieces_after separator (drop (first_len separator (byte ∷ bytes)) (byte ∷ bytes))
before_separator separator byte bytes other others =
    let n = first_len separator bytes in
    let one : 1 + n ≡ suc n = omega arith in
    rw other (rw one (ap (onto_first byte) others))

pub split_first : (separator : ℕ) (bytes : List ℕ) → split separator bytes ≡ take (first_len separator bytes) bytes ∷ pieces_after separator (drop (first_len separator bytes) bytes)
split_first separator [] = refl
split_first separator (byte ∷ bytes) = elim (cases_Bool (eqb byte separator)) [ inl same ↦ at_separator separator byte bytes same | inr other ↦ before_separator separator byte bytes other (split_first separator bytes) ]

-- the first piece and the others, by what is left after it
pub split_parts : (separator n : ℕ) (bytes rest : List ℕ) → n ≡ first_len separator bytes → rest ≡ drop n bytes → split separator bytes ≡ take n bytes ∷ pieces_after separator rest
split_parts separator n bytes rest is left = rw (left, is) (split_first separator bytes)

pub first_len-le : (separator : ℕ) (bytes : List ℕ) → first_len separator bytes ≤ length bytes
first_len-le separator bytes = prefix_len-le-length (λ byte. not (eqb byte separator)) bytes

-- a text has a piece
pub split-none : (separator : ℕ) (bytes : List ℕ) → split separator bytes ≡ [] → ⊥
split-none separator bytes none = let some = split_first separator bytes in cc

-- ---- a piece taken off

module _ (separator n : ℕ) (is_done : Bool) (left front back : List ℕ) (now : List (List ℕ)) (is_open : is_done ≡ false) (is : pieces_left separator is_done left ≡ now) (len : n ≡ first_len separator left) (in_front : front ≡ take n left) (behind : back ≡ drop n left) where
  whole : now ≡ front ∷ pieces_after separator back
  whole = sym is ∙ rw is_open (split_parts separator n left back len behind ∙ rw in_front refl)

  pub takes_last : length back < 1 → now ≡ front ∷ []
  takes_last none = whole ∙ last back none
    where
      last : (back : List ℕ) → length back < 1 → front ∷ pieces_after separator back ≡ front ∷ []
      last [] none = refl
      last (x ∷ xs) none = absurd (omega arith)

  pub takes_one : (others : List ℕ) → 1 ≤ length back → others ≡ drop 1 back → now ≡ front ∷ pieces_left separator is_done others
  takes_one others some is_rest = whole ∙ rw (is_open, is_rest) (more back some)
    where
      more : (back : List ℕ) → 1 ≤ length back → front ∷ pieces_after separator back ≡ front ∷ split separator (drop 1 back)
      more [] some = absurd (omega arith)
      more (x ∷ xs) some = refl

-- ---- the pieces and their text

keeps_lack : (separator byte : ℕ) (pieces : List (List ℕ)) → eqb byte separator ≡ false → Lack separator pieces → Lack separator (onto_first byte pieces)
keeps_lack separator byte [] other h = (rw other refl, tt)
keeps_lack separator byte (piece ∷ pieces) other h = (rw other h.0, h.1)

-- no piece holds the separator
pub split-lacks : (separator : ℕ) (bytes : List ℕ) → Lack separator (split separator bytes)
split-lacks separator [] = (refl, tt)
split-lacks separator (byte ∷ bytes) = elim (cases_Bool (eqb byte separator)) [
  | inl same ↦ rw same (refl, split-lacks separator bytes)
  | inr other ↦ rw other (keeps_lack separator byte (split separator bytes) other (split-lacks separator bytes))
]

pub join-split : (separator : ℕ) (bytes : List ℕ) → join_with_byte separator (split separator bytes) ≡ bytes
join-split separator bytes = join_with_byte-slice_split separator bytes

pub lacks-cons : (separator byte : ℕ) (piece : List ℕ) → lacks separator (byte ∷ piece) ≡ true → (eqb byte separator ≡ false) × (lacks separator piece ≡ true)
lacks-cons separator byte piece h = go (eqb byte separator) h
  where
    go : (test : Bool) → (not test && lacks separator piece) ≡ true → (test ≡ false) × (lacks separator piece ≡ true)
    go true h = absurd cc
    go false h = (refl, h)

-- a front without a separator belongs to the first piece
split-append : (separator : ℕ) (front rest first : List ℕ) (others : List (List ℕ)) → lacks separator front ≡ true → split separator rest ≡ first ∷ others → split separator (front ++ rest) ≡ (front ++ first) ∷ others
split-append separator [] rest first others h is = is
split-append separator (byte ∷ front) rest first others h is =
    let p = lacks-cons separator byte front h in
    rw p.0 (ap (onto_first byte) (split-append separator front rest first others p.1 is))

at_separator_too : (separator : ℕ) (rest : List ℕ) → split separator (separator ∷ rest) ≡ [] ∷ split separator rest
at_separator_too separator rest = rw (eq-eqb separator separator refl) refl

pub split-join : (separator : ℕ) (pieces : List (List ℕ)) → pieces ≢ [] → Lack separator pieces → split separator (join_with_byte separator pieces) ≡ pieces
split-join separator [] some h = absurd (some refl)
split-join separator (piece ∷ []) some h = rw (← append-nil piece) (split-append separator piece [] [] [] h.0 refl ∙ rw append-nil refl)
split-join separator (piece ∷ next ∷ pieces) some h =
    let others = split-join separator (next ∷ pieces) (λ none. cc) h.1 in
    split-append separator piece (separator ∷ join_with_byte separator (next ∷ pieces)) [] (next ∷ pieces) h.0 (at_separator_too separator (join_with_byte separator (next ∷ pieces)) ∙ ap (λ (ps : List (List ℕ)). [] ∷ ps) others)
    ∙ rw append-nil refl

pub pieces_from_split : (separator : ℕ) (bytes : List ℕ) (pieces : List (List ℕ)) → split separator bytes ≡ pieces → ArePieces separator pieces × (join_with_byte separator pieces ≡ bytes)
pieces_from_split separator bytes pieces is = rw (← is) ((split-none separator bytes, split-lacks separator bytes), join-split separator bytes)

pub split_from_pieces : (separator : ℕ) (bytes : List ℕ) (pieces : List (List ℕ)) → ArePieces separator pieces × (join_with_byte separator pieces ≡ bytes) → split separator bytes ≡ pieces
split_from_pieces separator bytes pieces h = rw (← h.1) (split-join separator pieces h.0.0 h.0.1)
