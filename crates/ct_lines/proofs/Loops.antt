-- Numbers and steps read one after the other, as a loop does.
use Rattle.std.proofs.Common.{◌≡◌, ℕ, suc, List, [], ◌∷◌, ◌++◌, length, Option, Some, None, refl, sym, ap, ◌∙◌, append_assoc, Bool, true, false, drop}
use Rattle.std.proofs.lemmas.List.{append-nil}
use Rattle.ct_lines.specs.declared.stop.LineStop.{LineStop}
use Rattle.ct_lines.specs.declared.stop.LineStop.TheVariants.{Refused, Memory}
use Rattle.ct_lines.specs.Reading.{◌>>=◌, Fails, number_left, numbers_left, step_of, first_step, steps_left, until_left}

-- ---- numbers

-- what was read before, and what is still read
abbrev pub with_front : {X : Type 0} → List X → Option (List X × List (List ℕ)) → Option (List X × List (List ℕ))
with_front front read = read >>= λ x. Some (front ++ x.0, x.1)

regroup : {X : Type 0} (front : List X) (x : X) (read : Option (List X × List (List ℕ))) → with_front front (read >>= λ y. Some (x ∷ y.0, y.1)) ≡ with_front (front ++ x ∷ []) read
regroup {X} front x (Some y) = ap (λ (xs : List X). Some (xs, y.1)) (simp append_assoc)
regroup front x None = refl

pub number_more : (front : List ℕ) (count later high n : ℕ) (words rest : List (List ℕ)) (whole : Option (List ℕ × List (List ℕ))) → count ≡ suc later → number_left 0 high words ≡ Some (n, rest)
    → with_front front (numbers_left count high words) ≡ whole → with_front (front ++ n ∷ []) (numbers_left later high rest) ≡ whole
unfolding numbers_left
number_more front count later high n words rest whole some one so_far =
    let step : numbers_left count high words ≡ (numbers_left later high rest >>= λ y. Some (n ∷ y.0, y.1)) = rw (some, one) refl in
    sym (regroup front n (numbers_left later high rest)) ∙ ap (with_front front) (sym step) ∙ so_far

pub number_stop : (stop : LineStop) (front : List ℕ) (count later high : ℕ) (words : List (List ℕ)) (whole : Option (List ℕ × List (List ℕ))) → count ≡ suc later → Fails stop (number_left 0 high words)
    → with_front front (numbers_left count high words) ≡ whole → Fails stop whole
unfolding numbers_left
number_stop Memory front count later high words whole some fault so_far = tt
number_stop Refused front count later high words whole some fault so_far =
    let none : numbers_left count high words ≡ None = rw (some, fault) refl in
    sym so_far ∙ ap (with_front front) none

pub number_end : (front : List ℕ) (count high : ℕ) (words : List (List ℕ)) (whole : Option (List ℕ × List (List ℕ))) → count ≡ 0
    → with_front front (numbers_left count high words) ≡ whole → whole ≡ Some (front, words)
unfolding numbers_left
number_end front count high words whole none so_far =
    let last : numbers_left count high words ≡ Some ([], words) = rw none refl in
    sym so_far ∙ ap (with_front front) last ∙ ap (λ (xs : List ℕ). Some (xs, words)) (append-nil front)

-- ---- steps

-- steps that were read before, and those that still stand there
abbrev pub behind : List (ℕ × ℕ) → List (ℕ × ℕ) × List (List ℕ) → List (ℕ × ℕ) × List (List ℕ)
behind front read = (front ++ read.0, read.1)

some_same : {X : Type 0} {x y : X} → Some x ≡ Some y → x ≡ y
some_same e = cc

abbrev found_before : List (List ℕ) → Option (ℕ × ℕ) → Option ((ℕ × ℕ) × List (List ℕ))
found_before words found = found >>= λ s. Some (s, words)

step_parts : (words rest : List (List ℕ)) (step : ℕ × ℕ) → first_step words ≡ Some (step, rest) → steps_left words ≡ (step ∷ (steps_left rest).0, (steps_left rest).1)
step_parts [] rest step e = absurd cc
step_parts (word ∷ words) rest step e = go (step_of word) refl e
  where
    go : (found : Option (ℕ × ℕ)) → step_of word ≡ found → found_before words found ≡ Some (step, rest) → steps_left (word ∷ words) ≡ (step ∷ (steps_left rest).0, (steps_left rest).1)
    go None is e = absurd cc
    go (Some s) is e =
        let same = some_same e in
        rw (is, ap (λ (x : (ℕ × ℕ) × List (List ℕ)). x.0) same, ap (λ (x : (ℕ × ℕ) × List (List ℕ)). x.1) same) refl

pub no_step_parts : (words : List (List ℕ)) → first_step words ≡ None → steps_left words ≡ ([], words)
no_step_parts [] e = refl
no_step_parts (word ∷ words) e = go (step_of word) refl e
  where
    go : (found : Option (ℕ × ℕ)) → step_of word ≡ found → found_before words found ≡ None → steps_left (word ∷ words) ≡ ([], word ∷ words)
    go None is e = rw is refl
    go (Some s) is e = absurd cc

-- ---- items until their end

module _ {X : Type 0} (one : List (List ℕ) → Option (X × List (List ℕ))) (stops : List (List ℕ) → Bool) (front : List X) (most : ℕ) (words : List (List ℕ)) (whole : Option (List X × List (List ℕ))) (so_far : with_front front (until_left one stops most words) ≡ whole) where
  pub until_more : (later : ℕ) (x : X) (next : List (List ℕ)) → most ≡ suc later → one words ≡ Some (x, next) → stops next ≡ false → with_front (front ++ x ∷ []) (until_left one stops later next) ≡ whole
  unfolding until_left
  until_more later x next some is goes =
      let step : until_left one stops most words ≡ (until_left one stops later next >>= λ y. Some (x ∷ y.0, y.1)) = rw (some, is, goes) refl in
      sym (regroup front x (until_left one stops later next)) ∙ ap (with_front front) (sym step) ∙ so_far

  pub until_end : (later : ℕ) (x : X) (next : List (List ℕ)) → most ≡ suc later → one words ≡ Some (x, next) → stops next ≡ true → whole ≡ Some (front ++ x ∷ [], drop 1 next)
  unfolding until_left
  until_end later x next some is ends =
      let step : until_left one stops most words ≡ Some (x ∷ [], drop 1 next) = rw (some, is, ends) refl in
      sym so_far ∙ ap (with_front front) step

  pub until_stop : (stop : LineStop) (later : ℕ) → most ≡ suc later → Fails stop (one words) → Fails stop whole
  unfolding until_left
  until_stop Memory later some fault = tt
  until_stop Refused later some fault =
      let none : until_left one stops most words ≡ None = rw (some, fault) refl in
      sym so_far ∙ ap (with_front front) none

  pub until_none : most ≡ 0 → whole ≡ None
  unfolding until_left
  until_none none =
      let last : until_left one stops most words ≡ None = rw none refl in
      sym so_far ∙ ap (with_front front) last
