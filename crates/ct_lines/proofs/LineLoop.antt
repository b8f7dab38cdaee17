-- The loop that reads a text line by line, one step on.
use Rattle.std.proofs.Common.{◌≡◌, ℕ, ◌+◌, ◌≤◌, Bool, List, [], ◌∷◌, length, Option, Some, None, Result, Err, eqb, refl, sym, ap, ◌∙◌, arith}
use Rattle.std.proofs.lemmas.List.Splits.{length-slice_split}
use Rattle.std.proofs.lemmas.List.Sums.{count_by-le-length}
use Rattle.ct_text.specs.Pieces.{split}
use Rattle.ct_lines.specs.Wording.{Wording, read, or_fault, read_from}

-- a text has at most one piece more than bytes
pub length-split-le : (separator : ℕ) (bytes : List ℕ) → length (split separator bytes) ≤ length bytes + 1
length-split-le separator bytes = omega (arith, length-slice_split (λ b. eqb b separator) bytes, count_by-le-length (λ b. eqb b separator) bytes)

module _ {S : Type 0} (next : S → Wording S) (is_closed : S → Bool) (n : ℕ) (s : S) (line : List ℕ) (lines rest : List (List ℕ)) (whole : Result S ℕ) (so_far : read_from next is_closed n s lines ≡ whole) (first : lines ≡ line ∷ rest) where
  line_of : (rest ≡ [] → ⊥) → or_fault n (read (next s) (split 32 line)) (λ t. read_from next is_closed (n + 1) t rest) ≡ whole
  unfolding read_from
  line_of some = go rest some ∙ sym (ap (read_from next is_closed n s) first) ∙ so_far
    where
      go : (rest : List (List ℕ)) → (rest ≡ [] → ⊥) → or_fault n (read (next s) (split 32 line)) (λ t. read_from next is_closed (n + 1) t rest) ≡ read_from next is_closed n s (line ∷ rest)
      go [] some = absurd (some refl)
      go (other ∷ others) some = refl

  pub line_stop : (rest ≡ [] → ⊥) → read (next s) (split 32 line) ≡ None → whole ≡ Err n
  line_stop some none = sym (line_of some) ∙ rw none refl

  pub line_more : (t : S) → (rest ≡ [] → ⊥) → read (next s) (split 32 line) ≡ Some t → read_from next is_closed (n + 1) t rest ≡ whole
  line_more t some is = sym (ap (λ (found : Option S). or_fault n found (λ t. read_from next is_closed (n + 1) t rest)) is) ∙ line_of some

pub no_line : {S : Type 0} (next : S → Wording S) (is_closed : S → Bool) (n : ℕ) (s : S) (lines : List (List ℕ)) (whole : Result S ℕ) → read_from next is_closed n s lines ≡ whole → lines ≡ [] → whole ≡ Err n
unfolding read_from
no_line next is_closed n s lines whole so_far none = sym so_far ∙ ap (read_from next is_closed n s) none
