-- The tokens of a text that was cut short.
use Rattle.std.proofs.Common.{◌≡◌, ◌≢◌, ◌⊎◌, ℕ, Bool, true, false, cond, List, [], ◌∷◌, ◌++◌, eqb, take_while, refl, sym, ap, ◌∙◌, subst, subst₂, inl, inr}
use Rattle.std.proofs.lemmas.Bool.{cases_Bool}
use Rattle.std.proofs.lemmas.List.Sums.{take_while-cons}
use Rattle.ct_text.specs.declared.place.Place.{Place}
use Rattle.ct_text.specs.Place.{past}
use Rattle.ct_text.specs.Tokens.{Lexeme, is_plain, Mode, between, inside, comment, mode_after, begins, tokens_in, text_of}
use Rattle.ct_input.specs.Cut.{mode_past, HasTokenByte, IsCutBefore}
use Rattle.ct_input.proofs.Filling.{true_is_not_false}

-- the text goes on to the whole
pub record IsFront (text whole : List ℕ) : Type 0 where
  pub more : List ℕ
  pub whole_is : whole ≡ text ++ more
  pub some : more ≢ []

-- the tokens are some of the first, and then perhaps the front of one; they aren't all
abbrev pub IsCut : List Lexeme → List Lexeme → Type 0
IsCut [] [] = ⊥
IsCut [] (whole ∷ wholes) = Unit {0}
IsCut (token ∷ tokens) [] = ⊥
IsCut (token ∷ tokens) (whole ∷ wholes) = ((token ≡ whole) × IsCut tokens wholes) ⊎ ((tokens ≡ []) × IsFront token.text whole.text)

-- each byte of the front is plain, and so is the next: a token that runs goes on
abbrev runs_on : List ℕ → List ℕ → Bool
runs_on [] [] = false
runs_on [] (byte ∷ more) = is_plain byte
runs_on (byte ∷ front) more = cond (is_plain byte) (runs_on front more) false

-- ---- tests

both : (a b : Bool) → cond a b false ≡ true → (a ≡ true) × (b ≡ true)
both true b h = (refl, h)
both false b h = absurd cc

second_not : (a b : Bool) → cond a b false ≡ false → a ≡ true → b ≡ false
second_not true b h e = h
second_not false b h e = absurd cc

-- ---- the longest run of plain bytes

same_where : (a : Bool) (byte : ℕ) (xs ys : List ℕ) → (a ≡ true → xs ≡ ys) → cond a (byte ∷ xs) [] ≡ cond a (byte ∷ ys) []
same_where true byte xs ys h = ap (λ (zs : List ℕ). byte ∷ zs) (h refl)
same_where false byte xs ys h = refl

run_plain : (byte : ℕ) (bytes : List ℕ) → is_plain byte ≡ true → take_while is_plain (byte ∷ bytes) ≡ byte ∷ take_while is_plain bytes
run_plain byte bytes h = take_while-cons is_plain byte bytes ∙ ap (λ (a : Bool). cond a (byte ∷ take_while is_plain bytes) []) h

run_none : (byte : ℕ) (bytes : List ℕ) → is_plain byte ≡ false → take_while is_plain (byte ∷ bytes) ≡ []
run_none byte bytes h = take_while-cons is_plain byte bytes ∙ ap (λ (a : Bool). cond a (byte ∷ take_while is_plain bytes) []) h

-- where it doesn't go on it is that of the front
run_ends : (front more : List ℕ) → runs_on front more ≡ false → take_while is_plain (front ++ more) ≡ take_while is_plain front
run_ends [] [] h = refl
run_ends [] (byte ∷ more) h = run_none byte more h
run_ends (byte ∷ front) more h =
    take_while-cons is_plain byte (front ++ more)
    ∙ same_where (is_plain byte) byte (take_while is_plain (front ++ more)) (take_while is_plain front) (λ plain. run_ends front more (second_not (is_plain byte) (runs_on front more) h plain))
    ∙ sym (take_while-cons is_plain byte front)

-- where it goes on it is all of the front, and some of what follows
run_all : (front more : List ℕ) → runs_on front more ≡ true → take_while is_plain front ≡ front
run_all [] more h = refl
run_all (byte ∷ front) more h =
    let b = both (is_plain byte) (runs_on front more) h in
    run_plain byte front b.0 ∙ ap (λ (zs : List ℕ). byte ∷ zs) (run_all front more b.1)

run_on : (front more : List ℕ) → runs_on front more ≡ true → take_while is_plain (front ++ more) ≡ front ++ take_while is_plain more
run_on [] more h = refl
run_on (byte ∷ front) more h =
    let b = both (is_plain byte) (runs_on front more) h in
    run_plain byte (front ++ more) b.0 ∙ ap (λ (zs : List ℕ). byte ∷ zs) (run_on front more b.1)

run_some : (front more : List ℕ) → runs_on front more ≡ true → take_while is_plain more ≢ []
run_some [] [] h = absurd cc
run_some [] (byte ∷ more) h = λ none. let some : take_while is_plain (byte ∷ more) ≡ byte ∷ take_while is_plain more = run_plain byte more h in absurd cc
run_some (byte ∷ front) more h = run_some front more (both (is_plain byte) (runs_on front more) h).1

-- ---- what a byte does

-- a token's byte is plain, and in no comment
into : (a b : Bool) → cond a inside (cond b comment between) ≡ inside → a ≡ true
into true b h = refl
into false true h = absurd cc
into false false h = absurd cc

out_of : (a : Bool) → cond a between comment ≡ inside → ⊥
out_of true h = cc
out_of false h = cc

-- a byte that begins no token is of the one that runs
goes_in : (mode : Mode) (byte : ℕ) → begins mode byte ≡ false → mode_after mode byte ≡ inside → (mode ≡ inside) × (is_plain byte ≡ true)
goes_in between byte skips h = absurd (true_is_not_false (is_plain byte) (into (is_plain byte) (eqb byte 35) h) skips)
goes_in inside byte skips h = (refl, into (is_plain byte) (eqb byte 35) h)
goes_in comment byte skips h = absurd (out_of (eqb byte 10) h)

begun_in : (mode : Mode) (byte : ℕ) → begins mode byte ≡ true → mode_after mode byte ≡ inside
begun_in between byte h = ap (λ (a : Bool). cond a inside (cond (eqb byte 35) comment between)) h
begun_in inside byte h = absurd cc
begun_in comment byte h = absurd cc

begun_plain : (mode : Mode) (byte : ℕ) → begins mode byte ≡ true → is_plain byte ≡ true
begun_plain between byte h = h
begun_plain inside byte h = absurd cc
begun_plain comment byte h = absurd cc

abbrev token_of : Place → List ℕ → Lexeme
token_of place text = record { place = place; text = text }

abbrev run_at : Place → List ℕ → Lexeme
run_at place bytes = token_of place (take_while is_plain bytes)

begun : (mode : Mode) (place : Place) (byte : ℕ) (bytes : List ℕ) → begins mode byte ≡ true → tokens_in mode place (byte ∷ bytes) ≡ run_at place (byte ∷ bytes) ∷ tokens_in inside (past place byte) bytes
begun mode place byte bytes h =
    let others : Mode → List Lexeme = λ m. tokens_in m (past place byte) bytes in
    ap (λ (a : Bool). cond a (run_at place (byte ∷ bytes) ∷ others (mode_after mode byte)) (others (mode_after mode byte))) h
    ∙ ap (λ (m : Mode). run_at place (byte ∷ bytes) ∷ others m) (begun_in mode byte h)

skipped : (mode : Mode) (place : Place) (byte : ℕ) (bytes : List ℕ) → begins mode byte ≡ false → tokens_in mode place (byte ∷ bytes) ≡ tokens_in (mode_after mode byte) (past place byte) bytes
skipped mode place byte bytes h =
    let others : List Lexeme = tokens_in (mode_after mode byte) (past place byte) bytes in
    ap (λ (a : Bool). cond a (run_at place (byte ∷ bytes) ∷ others) others) h

-- where a token runs on, none begins
none_begins : (place : Place) (front more : List ℕ) → runs_on front more ≡ true → tokens_in inside place front ≡ []
none_begins place [] more h = refl
none_begins place (byte ∷ front) more h =
    let b = both (is_plain byte) (runs_on front more) h in
    let stays : mode_after inside byte ≡ inside = ap (λ (a : Bool). cond a inside (cond (eqb byte 35) comment between)) b.0 in
    skipped inside place byte front refl ∙ ap (λ (m : Mode). tokens_in m (past place byte) front) stays ∙ none_begins (past place byte) front more b.1

-- ---- the tokens of a front

-- bytes of a token, of which none runs on, have a token
some_token : (mode : Mode) (place : Place) (more : List ℕ) → (mode ≡ inside → runs_on [] more ≡ false) → HasTokenByte mode more → IsCut [] (tokens_in mode place more)
some_token mode place [] ends has = absurd has
some_token mode place (byte ∷ more) ends has =
    elim (cases_Bool (begins mode byte)) [
      | inl starts ↦ subst (λ (ts : List Lexeme). IsCut [] ts) (sym (begun mode place byte more starts)) tt
      | inr skips ↦
          let never : mode_after mode byte ≡ inside → ⊥ = λ e. let g = goes_in mode byte skips e in true_is_not_false (is_plain byte) g.1 (ends g.0) in
          let rest : HasTokenByte (mode_after mode byte) more = elim has [ inl e ↦ absurd (never e) | inr h ↦ h ] in
          subst (λ (ts : List Lexeme). IsCut [] ts) (sym (skipped mode place byte more skips)) (some_token (mode_after mode byte) (past place byte) more (λ e. absurd (never e)) rest)
    ]

token_ends : (place : Place) (byte : ℕ) (front more : List ℕ) → runs_on front more ≡ false → run_at place (byte ∷ front) ≡ run_at place (byte ∷ (front ++ more))
token_ends place byte front more h =
    let text : take_while is_plain (byte ∷ front) ≡ take_while is_plain (byte ∷ (front ++ more)) =
    take_while-cons is_plain byte front ∙ same_where (is_plain byte) byte (take_while is_plain front) (take_while is_plain (front ++ more)) (λ _. sym (run_ends front more h)) ∙ sym (take_while-cons is_plain byte (front ++ more)) in
    ap (token_of place) text

token_front : (place : Place) (byte : ℕ) (front more : List ℕ) → is_plain byte ≡ true → runs_on front more ≡ true → IsFront (run_at place (byte ∷ front)).text (run_at place (byte ∷ (front ++ more))).text
token_front place byte front more plain runs = record {
  more = take_while is_plain more;
  whole_is =
      let whole : take_while is_plain (byte ∷ (front ++ more)) ≡ byte ∷ (front ++ take_while is_plain more) = run_plain byte (front ++ more) plain ∙ ap (λ (zs : List ℕ). byte ∷ zs) (run_on front more runs) in
      let text : take_while is_plain (byte ∷ front) ≡ byte ∷ front = run_plain byte front plain ∙ ap (λ (zs : List ℕ). byte ∷ zs) (run_all front more runs) in
      whole ∙ ap (λ (zs : List ℕ). zs ++ take_while is_plain more) (sym text);
  some = run_some front more runs;
}

-- the one exception is a token that was begun before the front and goes on past it
cut_at : (mode : Mode) (place : Place) (front more : List ℕ) → (mode ≡ inside → runs_on front more ≡ false) → HasTokenByte (mode_past mode front) more → IsCut (tokens_in mode place front) (tokens_in mode place (front ++ more))
cut_at mode place [] more ends has = some_token mode place more ends has
cut_at mode place (byte ∷ front) more ends has =
    elim (cases_Bool (begins mode byte)) [
      | inl starts ↦
          let later : HasTokenByte (mode_past inside front) more = subst (λ (m : Mode). HasTokenByte (mode_past m front) more) (begun_in mode byte starts) has in
          let cut : IsCut (run_at place (byte ∷ front) ∷ tokens_in inside (past place byte) front) (run_at place (byte ∷ (front ++ more)) ∷ tokens_in inside (past place byte) (front ++ more)) =
          elim (cases_Bool (runs_on front more)) [
            | inl runs ↦ inr (none_begins (past place byte) front more runs, token_front place byte front more (begun_plain mode byte starts) runs)
            | inr stops ↦ inl (token_ends place byte front more stops, cut_at inside (past place byte) front more (λ _. stops) later)
          ] in
          subst₂ (λ (ts wholes : List Lexeme). IsCut ts wholes) (sym (begun mode place byte front starts)) (sym (begun mode place byte (front ++ more) starts)) cut
      | inr skips ↦
          let stops : mode_after mode byte ≡ inside → runs_on front more ≡ false = λ e. let g = goes_in mode byte skips e in second_not (is_plain byte) (runs_on front more) (ends g.0) g.1 in
          subst₂ (λ (ts wholes : List Lexeme). IsCut ts wholes) (sym (skipped mode place byte front skips)) (sym (skipped mode place byte (front ++ more) skips)) (cut_at (mode_after mode byte) (past place byte) front more stops has)
    ]

-- the tokens of a front that ends before the last byte of the last token are cut
pub cut_tokens : (front more : List ℕ) → IsCutBefore front more → IsCut (text_of front).tokens (text_of (front ++ more)).tokens
cut_tokens front more has = cut_at between (record { line = 1; column = 1 }) front more (λ e. absurd cc) has
