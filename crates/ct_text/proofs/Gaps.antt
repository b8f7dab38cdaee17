-- The tokens of what is left of a text.
use Rattle.std.proofs.Common.{◌≡◌, ℕ, suc, ◌+◌, ◌<◌, Bool, true, false, eqb, List, [], ◌∷◌, take, drop, refl, sym, ap, ◌∙◌, arith}
use Rattle.std.proofs.Common.{inl, inr, add-zero, add_assoc}
use Rattle.std.specs.List.{prefix_len}
use Rattle.std.proofs.lemmas.Bool.{cases_Bool}
use Rattle.std.proofs.lemmas.Bool.Decides.{nat_tests}
use Rattle.ct_text.specs.declared.place.Place.{Place}
use Rattle.ct_text.specs.Place.{past, place_after}
use Rattle.ct_text.specs.Tokens.{Lexeme, Mode, between, inside, comment, is_plain, tokens_in}

-- between tokens, or in a comment
abbrev pub gap : Bool → Mode
gap false = between
gap true = comment

-- a plain byte ends no line
past-plain : (p : Place) (b : ℕ) → is_plain b ≡ true → past p b ≡ record { line = p.line; column = p.column + 1 }
past-plain p b plain =
    let same : eqb b 10 ≡ false = grind (arith, nat_tests) in rw same refl

-- a place further on in its line
abbrev pub further : Place → ℕ → Place
further p n = record { line = p.line; column = p.column + n }

further-zero : (p : Place) → further p 0 ≡ p
further-zero p = rw add-zero refl

further-further : (p : Place) (m n : ℕ) → further (further p m) n ≡ further p (m + n)
further-further p m n = rw add_assoc refl

-- a token ends where its run of plain bytes does
pub tokens_in-inside : (p : Place) (bs : List ℕ) → tokens_in inside p bs ≡ tokens_in between (further p (prefix_len is_plain bs)) (drop (prefix_len is_plain bs) bs)
tokens_in-inside p [] = refl
tokens_in-inside p (b ∷ bs) =
    elim (cases_Bool (is_plain b)) [
      | inl plain ↦
          let n = prefix_len is_plain bs in
          let one : 1 + n ≡ suc n = omega arith in
          rw plain (rw (one, past-plain p b plain) (tokens_in-inside (further p 1) bs ∙ ap (λ (q : Place). tokens_in between q (drop n bs)) (further-further p 1 n ∙ ap (further p) one)))
      | inr blank ↦ rw (blank, blank, add-zero) refl
    ]

pub place_after-run : (p : Place) (bs : List ℕ) → place_after p bs ≡ place_after (further p (prefix_len is_plain bs)) (drop (prefix_len is_plain bs) bs)
place_after-run p [] = sym (further-zero p)
place_after-run p (b ∷ bs) =
    elim (cases_Bool (is_plain b)) [
      | inl plain ↦
          let n = prefix_len is_plain bs in
          let one : 1 + n ≡ suc n = omega arith in
          rw plain (rw (one, past-plain p b plain) (place_after-run (further p 1) bs ∙ ap (λ (q : Place). place_after q (drop n bs)) (further-further p 1 n ∙ ap (further p) one)))
      | inr blank ↦ rw (blank, add-zero) refl
    ]

-- the token at the front, and those after it
pub tokens_in-front : (p : Place) (bs : List ℕ) (n : ℕ) → n ≡ prefix_len is_plain bs → 0 < n → tokens_in between p bs ≡ record { place = p; text = take n bs } ∷ tokens_in between (further p n) (drop n bs)
tokens_in-front p [] n same some = absurd (omega arith)
tokens_in-front p (b ∷ bs) n same some =
    elim (cases_Bool (is_plain b)) [
      | inl plain ↦
          let first : Lexeme = record { place = p; text = take n (b ∷ bs) } in
          let whole : tokens_in between p (b ∷ bs) ≡ first ∷ tokens_in inside p (b ∷ bs) = rw (same, plain) refl in
          whole ∙ ap (λ (others : List Lexeme). first ∷ others) (rw same (tokens_in-inside p (b ∷ bs)))
      | inr blank ↦ absurd (let none : prefix_len is_plain (b ∷ bs) ≡ 0 = rw blank refl in omega arith)
    ]
