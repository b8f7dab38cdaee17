-- What a pass has after its release.
use Rattle.std.proofs.Common.{◌≡◌, ℕ, List, [], ◌∷◌, length, slice_index, drop, refl, ap, ◌∙◌, arith, Option, Some, None}
use Rattle.std.specs.Prelude.{IsSomeAnd}
use Rattle.atomic_table.specs.Table.{Me}
use Rattle.count_lock.specs.declared.note.Note.{Note}
use Rattle.count_lock.specs.Pairs.{recounted}
use Rattle.count_lock.specs.Told.{releases}

pub some_and : {A : Type 0} (o : Option A) (P : A → Type 0) → IsSomeAnd o P → (a : A) × (o ≡ Some a) × P a
some_and None P h = absurd h
some_and (Some a) P h = (a, refl, h)

none_left : {A : Type 0} (xs : List A) → length xs ≡ 0 → xs ≡ []
none_left [] e = refl
none_left (x ∷ xs) e = absurd (omega arith)

-- one pair is left, with the count of the value that was given back
one_recounted : (xs : List (ℕ × ℕ)) (counts : List ℕ) (number old : ℕ) → xs ≡ (number, old) ∷ drop 1 xs → length xs ≡ 1 → recounted counts xs ≡ (number, slice_index counts number) ∷ []
one_recounted xs counts number old first single = let long = ap length first in let left = none_left (drop 1 xs) (omega arith) in
    ap (recounted counts) (first ∙ ap (λ (l : List (ℕ × ℕ)). (number, old) ∷ l) left)

module _ {V : Type 0} where
  abbrev pub freed : Note V → ℕ → ℕ → Note V
  freed note number count = record note { pairs = (number, count) ∷ []; held = None }

  -- the exchange in and the release together, for a pass with one pair
  pub unlocked : (counts_of : V → List ℕ) (me swapped after : Me (Option V) (Note V)) (number count : ℕ) (value : V) → me.0.pairs ≡ (number, count) ∷ drop 1 me.0.pairs → length me.0.pairs ≡ 1
      → swapped ≡ (me.0, (0, Some value) ∷ []) → ((v : V) → swapped.1 ≡ (0, Some v) ∷ [] → after ≡ (releases swapped.0 (counts_of v), []))
      → after ≡ (freed me.0 number (slice_index (counts_of value) number), [])
  unlocked counts_of me swapped after number count value first single exchanged released =
      released value (ap (λ (m : Me (Option V) (Note V)). m.1) exchanged)
      ∙ (ap (λ (m : Me (Option V) (Note V)). (releases m.0 (counts_of value), [])) exchanged
      ∙ ap (λ (l : List (ℕ × ℕ)). (record me.0 { pairs = l; held = None }, [])) (one_recounted me.0.pairs (counts_of value) number count first single))
