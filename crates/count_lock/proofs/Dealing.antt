-- How the opening deals its passes.
use Rattle.std.proofs.Common.{◌≡◌, ℕ, suc, ◌+◌, ◌<◌, List, [], ◌∷◌, ◌++◌, length, take, reverse, get_or, sym, refl, ap, ◌∙◌, arith, append_assoc, length-take, Some, None, false}
use Rattle.std.proofs.lemmas.List.{reverse-append, take_more}
use Rattle.count_lock.specs.Pairs.{numbered, last_pair, but_last}
use Rattle.count_lock.specs.declared.note.Note.{Note}
use Rattle.count_lock.specs.Count.{first_note}
use Rattle.count_lock.specs.Told.{gives_last, keeps_most}
use Rattle.count_lock.specs.Sight.{LockPlace, LockSight, fresh_pass, fresh_passes}

last_snoc : (xs : List (ℕ × ℕ)) (x : ℕ × ℕ) → last_pair (xs ++ x ∷ []) ≡ x ∷ []
last_snoc [] x = refl
last_snoc (y ∷ []) x = refl
last_snoc (y ∷ z ∷ xs) x = last_snoc (z ∷ xs) x

most_snoc : (xs : List (ℕ × ℕ)) (x : ℕ × ℕ) → but_last (xs ++ x ∷ []) ≡ xs
most_snoc [] x = refl
most_snoc (y ∷ []) x = refl
most_snoc (y ∷ z ∷ xs) x = ap (λ (l : List (ℕ × ℕ)). y ∷ l) (most_snoc (z ∷ xs) x)

numbered_snoc : (from : ℕ) (xs : List ℕ) (c : ℕ) → numbered from (xs ++ c ∷ []) ≡ numbered from xs ++ (from + length xs, c) ∷ []
numbered_snoc from [] c = ap (λ (n : ℕ). (n, c) ∷ []) (let e : from ≡ from + 0 = omega arith in e)
numbered_snoc from (x ∷ xs) c = let further : (from + 1) + length xs ≡ from + suc (length xs) = omega arith in
    ap (λ (l : List (ℕ × ℕ)). (from, x) ∷ l) (numbered_snoc (from + 1) xs c ∙ ap (λ (n : ℕ). numbered (from + 1) xs ++ (n, c) ∷ []) further)

-- the counts up to the n-th are those before it and it
front : (cs : List ℕ) (n : ℕ) → n < length cs → take (n + 1) cs ≡ take n cs ++ get_or cs n 0 ∷ []
front cs n below = take_more cs n 0 below

numbered_front : (cs : List ℕ) (n : ℕ) → n < length cs → numbered 0 (take (n + 1) cs) ≡ numbered 0 (take n cs) ++ (n, get_or cs n 0) ∷ []
numbered_front cs n below = ap (numbered 0) (front cs n below) ∙ (numbered_snoc 0 (take n cs) (get_or cs n 0) ∙ ap (λ (k : ℕ). numbered 0 (take n cs) ++ (k, get_or cs n 0) ∷ []) (let e : 0 + length (take n cs) ≡ n = omega (arith, length-take n cs) in e))

module _ {V : Type 0} (first : V) (cs : List ℕ) (n : ℕ) (below : n < length cs) where
  -- what the seat of the opening gives away, and what it keeps
  pub given_note : (note : Note V) → note ≡ first_note first (take (n + 1) cs) → gives_last note ≡ record { first = Some first; pairs = (n, get_or cs n 0) ∷ []; shown = []; held = None; spent = false }
  given_note note is = ap gives_last is
      ∙ ap (λ (l : List (ℕ × ℕ)). record { first = Some first; pairs = l; shown = []; held = None; spent = false }) (ap last_pair (numbered_front cs n below) ∙ last_snoc (numbered 0 (take n cs)) (n, get_or cs n 0))

  pub kept_note : (note : Note V) → note ≡ first_note first (take (n + 1) cs) → keeps_most note ≡ first_note first (take n cs)
  kept_note note is = ap keeps_most is
      ∙ ap (λ (l : List (ℕ × ℕ)). record { first = Some first; pairs = l; shown = []; held = None; spent = false }) (ap but_last (numbered_front cs n below) ∙ most_snoc (numbered 0 (take n cs)) (n, get_or cs n 0))

module _ {V : Type 0} (place : LockPlace V) where
  fresh_snoc : (from : ℕ) (xs : List ℕ) (c : ℕ) → fresh_passes place from (xs ++ c ∷ []) ≡ fresh_passes place from xs ++ fresh_pass place (from + length xs) c ∷ []
  fresh_snoc from [] c = ap (λ (n : ℕ). fresh_pass place n c ∷ []) (let e : from ≡ from + 0 = omega arith in e)
  fresh_snoc from (x ∷ xs) c = let further : (from + 1) + length xs ≡ from + suc (length xs) = omega arith in
      ap (λ (l : List (LockSight V)). fresh_pass place from x ∷ l) (fresh_snoc (from + 1) xs c ∙ ap (λ (n : ℕ). fresh_passes place (from + 1) xs ++ fresh_pass place n c ∷ []) further)

  -- one more pass is dealt, from the back
  pub dealt_more : (cs : List ℕ) (n m : ℕ) → n ≡ m → (dealt more : List (LockSight V)) → n < length cs → fresh_passes place 0 (take (n + 1) cs) ++ reverse dealt ≡ fresh_passes place 0 cs → more ≡ dealt ++ fresh_pass place n (get_or cs n 0) ∷ []
      → fresh_passes place 0 (take m cs) ++ reverse more ≡ fresh_passes place 0 cs
  dealt_more cs n m same dealt more below before is = let c : ℕ = get_or cs n 0 in
      let here : fresh_passes place 0 (take (n + 1) cs) ≡ fresh_passes place 0 (take n cs) ++ fresh_pass place n c ∷ [] = ap (fresh_passes place 0) (front cs n below) ∙ (fresh_snoc 0 (take n cs) c
      ∙ ap (λ (k : ℕ). fresh_passes place 0 (take n cs) ++ fresh_pass place k c ∷ []) (let e : 0 + length (take n cs) ≡ n = omega (arith, length-take n cs) in e)) in
      ap (λ (k : ℕ). fresh_passes place 0 (take k cs) ++ reverse more) (sym same)
      ∙ (ap (λ (l : List (LockSight V)). fresh_passes place 0 (take n cs) ++ reverse l) is
      ∙ (ap (λ (l : List (LockSight V)). fresh_passes place 0 (take n cs) ++ l) (reverse-append dealt (fresh_pass place n c ∷ []))
      ∙ (sym (append_assoc (fresh_passes place 0 (take n cs)) (fresh_pass place n c ∷ []) (reverse dealt)) ∙ (ap (λ (l : List (LockSight V)). l ++ reverse dealt) (sym here) ∙ before))))
