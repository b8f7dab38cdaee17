-- Grammars whose texts end with the word `end`: a text that was cut short before its last byte is refused.
use Rattle.std.proofs.Common.{◌≡◌, ◌≢◌, ◌⊎◌, ℕ, ℤ, Bool, true, false, cond, List, [], ◌∷◌, ◌++◌, take, Result, Ok, Err, refl, sym, ap, ◌∙◌, subst, inl, inr}
use Rattle.std.specs.Prelude.{is_ok}
use Rattle.std.specs.Str.{bytes_eq}
use Rattle.std.proofs.lemmas.Bool.{cases_Bool}
use Rattle.std.proofs.lemmas.Slice.Eq.{bytes_eq-Decides}
use Rattle.ct_text.specs.declared.place.Place.{Place}
use Rattle.ct_text.specs.Tokens.{Lexeme}
use Rattle.ct_input.specs.declared.fault.Fault.{Fault}
use Rattle.ct_input.specs.Sheet.{Sheet, ◌>>=◌}
use Rattle.ct_input.specs.Grammar.{Grammar, done, nothing, word, number, signed, fork, barred, only, read, token_at, word_in, number_in, signed_in, only_in, barred_at}
use Rattle.ct_input.proofs.Yields.{bind-ok, ok_same}
use Rattle.ct_input.proofs.Filling.{sheet, end_word, Needs, needs_token, true_is_not_false}
use Rattle.ct_input.proofs.CutTokens.{IsFront, IsCut}

-- it doesn't begin as `end` does
abbrev pub IsOther : List ℕ → Type 0
IsOther w = bytes_eq (take 3 w) end_word ≡ false

-- each text ends with the word `end`, after which nothing may follow, and no word that a fork looks for begins as it does
unfoldable pub Stops : {A : Type 0} → Grammar A → Type 0
Stops (done x) = ⊥
Stops (nothing next) = ⊥
Stops {A} (word w next) = ((w ≡ end_word) × ((x : A) × (next ≡ nothing (done x)))) ⊎ Stops next
Stops (number low high next) = (n : ℕ) → Stops (next n)
Stops (signed size next) = (n : ℤ) → Stops (next n)
Stops (fork w first second) = Stops first × Stops second × IsOther w
Stops (barred w next) = Stops next
Stops (only w next) = Stops next

-- ---- what is refused

not_ok : {X : Type 0} (f : Fault) (x : X) → ◌≡◌ {A = Result X Fault} (Err f) (Ok x) → ⊥
not_ok f x e = cc

needs_of : {A : Type 0} (g : Grammar A) → Stops g → Needs g
unfolding Stops Needs
needs_of (done x) stops = stops
needs_of (nothing next) stops = stops
needs_of (word w next) stops = tt
needs_of (number low high next) stops = tt
needs_of (signed size next) stops = tt
needs_of (fork w first second) stops = needs_of second stops.1
needs_of (barred w next) stops = needs_of next stops
needs_of (only w next) stops = tt

-- a text without a token
not_empty : {A : Type 0} (g : Grammar A) → Stops g → (end : Place) (y : A × Sheet) → read g (sheet [] end) ≡ Ok y → ⊥
not_empty g stops end y h = true_is_not_false (is_ok (read g (sheet [] end))) (ap is_ok h) (needs_token g (needs_of g stops) end)

-- a text is no front of itself
not_itself : (xs more : List ℕ) → more ≢ [] → xs ≡ xs ++ more → ⊥
not_itself [] more some e = some (sym e)
not_itself (x ∷ xs) more some e = not_itself xs more some cc

no_front : (text whole w : List ℕ) → text ≡ w → whole ≡ w → IsFront text whole → ⊥
no_front text whole w a b front = not_itself text front.more front.some (a ∙ sym b ∙ front.whole_is)

-- a word that has `end` in front
not_other : (w more : List ℕ) → w ≡ end_word ++ more → IsOther w → ⊥
not_other w more e other =
    let same : bytes_eq (take 3 w) end_word ≡ true = ap (λ (v : List ℕ). bytes_eq (take 3 v) end_word) e in
    true_is_not_false (bytes_eq (take 3 w) end_word) same other

none_cut : (ps : List Lexeme) → IsCut ps [] → ⊥
none_cut [] h = h
none_cut (p ∷ ps) h = h

-- ---- a token that is read by itself

word_is : (w : List ℕ) (t : Lexeme) (x : Bool) → word_in w t ≡ Ok x → t.text ≡ w
word_is w t x h =
    elim (cases_Bool (bytes_eq t.text w)) [
      | inl same ↦ (bytes_eq-Decides t.text w).0 same
      | inr other ↦ absurd (not_ok _ x (rw other at h))
    ]

module _ {A X : Type 0} (reading : Lexeme → Result X Fault) (next : X → Grammar A) where
  abbrev goes : Sheet → Result (A × Sheet) Fault
  goes s = token_at reading s >>= λ x. read (next x.0) x.1

  abbrev past : List Lexeme → Place → X → Result (X × Sheet) Fault
  past ts end x = Ok (x, sheet ts end)

  -- what the token gave, and what follows it
  taken : (t : Lexeme) (ts : List Lexeme) (end : Place) (y : A × Sheet) → goes (sheet (t ∷ ts) end) ≡ Ok y → (x : X) × ((reading t ≡ Ok x) × (read (next x) (sheet ts end) ≡ Ok y))
  taken t ts end y h = by (reading t) refl h
    where
      by : (r : Result X Fault) → reading t ≡ r → ((r >>= past ts end) >>= λ x. read (next x.0) x.1) ≡ Ok y → (x : X) × ((reading t ≡ Ok x) × (read (next x) (sheet ts end) ≡ Ok y))
      by (Ok x) e k = (x, (e, k))
      by (Err f) e k = absurd (not_ok f y k)

  refused : ((x : X) (end : Place) (y : A × Sheet) → read (next x) (sheet [] end) ≡ Ok y → ⊥)
      → ((x : X) (ps ts : List Lexeme) → IsCut ps ts → (a b : Place) (y z : A × Sheet) → read (next x) (sheet ts b) ≡ Ok z → read (next x) (sheet ps a) ≡ Ok y → ⊥)
      → (ps ts : List Lexeme) → IsCut ps ts → (a b : Place) (y z : A × Sheet) → goes (sheet ts b) ≡ Ok z → goes (sheet ps a) ≡ Ok y → ⊥
  refused empty later [] ts is_cut a b y z whole front = not_ok _ y front
  refused empty later (p ∷ ps) [] is_cut a b y z whole front = is_cut
  refused empty later (p ∷ ps) (t ∷ ts) (inl same) a b y z whole front =
      let f = taken p ps a y front in
      let w = taken t ts b z whole in
      let x_is : f.0 ≡ w.0 = ok_same f.0 w.0 (sym f.1.0 ∙ ap reading same.0 ∙ w.1.0) in
      later w.0 ps ts same.1 a b y z w.1.1 (subst (λ (x : X). read (next x) (sheet ps a) ≡ Ok y) x_is f.1.1)
  refused empty later (p ∷ ps) (t ∷ ts) (inr last) a b y z whole front =
      let f = taken p ps a y front in
      empty f.0 a y (subst (λ (qs : List Lexeme). read (next f.0) (sheet qs a) ≡ Ok y) last.0 f.1.1)

-- ---- the last word

closed : {A : Type 0} (next : Grammar A) (x : A) → next ≡ nothing (done x) → (ts : List Lexeme) (end : Place) (y : A × Sheet) → read next (sheet ts end) ≡ Ok y → ts ≡ []
closed next x is [] end y h = refl
closed {A} next x is (t ∷ ts) end y h = absurd (not_ok _ y (sym (ap (λ (g : Grammar A). read g (sheet (t ∷ ts) end)) is) ∙ h))

end_refused : {A : Type 0} (w : List ℕ) (next : Grammar A) (x : A) → next ≡ nothing (done x)
    → (ps ts : List Lexeme) → IsCut ps ts → (a b : Place) (y z : A × Sheet) → read (word w next) (sheet ts b) ≡ Ok z → read (word w next) (sheet ps a) ≡ Ok y → ⊥
end_refused w next x is [] ts is_cut a b y z whole front = not_ok _ y front
end_refused w next x is (p ∷ ps) [] is_cut a b y z whole front = is_cut
end_refused w next x is (p ∷ ps) (t ∷ ts) (inl same) a b y z whole front =
    let v = taken (word_in w) (λ _. next) t ts b z whole in
    none_cut ps (subst (λ (us : List Lexeme). IsCut ps us) (closed next x is ts b z v.1.1) same.1)
end_refused w next x is (p ∷ ps) (t ∷ ts) (inr last) a b y z whole front =
    let v = taken (word_in w) (λ _. next) t ts b z whole in
    let f = taken (word_in w) (λ _. next) p ps a y front in
    no_front p.text t.text w (word_is w p f.0 f.1.0) (word_is w t v.0 v.1.0) last.1

-- a text of one token is `end`
one_token : {A : Type 0} (g : Grammar A) → Stops g → (t : Lexeme) (end : Place) (y : A × Sheet) → read g (sheet (t ∷ []) end) ≡ Ok y → t.text ≡ end_word
unfolding Stops
one_token (done x) stops t end y h = absurd stops
one_token (nothing next) stops t end y h = absurd stops
one_token (word w next) (inl last) t end y h = let b = taken (word_in w) (λ _. next) t [] end y h in word_is w t b.0 b.1.0 ∙ last.0
one_token (word w next) (inr later) t end y h = let b = taken (word_in w) (λ _. next) t [] end y h in absurd (not_empty next later end y b.1.1)
one_token (number low high next) stops t end y h = let b = taken (number_in low high) next t [] end y h in absurd (not_empty (next b.0) (stops b.0) end y b.1.1)
one_token (signed size next) stops t end y h = let b = taken (signed_in size) next t [] end y h in absurd (not_empty (next b.0) (stops b.0) end y b.1.1)
one_token {A} (fork w first second) stops t end y h =
    elim (bytes_eq t.text w) as (λ (b : Bool). cond b (read first (sheet [] end)) (read second (sheet (t ∷ []) end)) ≡ Ok y → t.text ≡ end_word) [
      | true ↦ λ k. absurd (not_empty first stops.0 end y k)
      | false ↦ λ k. one_token second stops.1 t end y k
    ] h
one_token (barred w next) stops t end y h = one_token next stops t end y (bind-ok (barred_at w (sheet (t ∷ []) end)) (λ _. read next (sheet (t ∷ []) end)) y h).1.1
one_token (only w next) stops t end y h = let b = taken (only_in w) (λ _. next) t [] end y h in absurd (not_empty next stops end y b.1.1)

-- ---- a text that was cut short

fork_yes : {A : Type 0} (w : List ℕ) (first second : Grammar A) (t : Lexeme) (ts : List Lexeme) (end : Place) → bytes_eq t.text w ≡ true → read first (sheet ts end) ≡ read (fork w first second) (sheet (t ∷ ts) end)
fork_yes w first second t ts end h = sym (ap (λ (b : Bool). cond b (read first (sheet ts end)) (read second (sheet (t ∷ ts) end))) h)

fork_no : {A : Type 0} (w : List ℕ) (first second : Grammar A) (t : Lexeme) (ts : List Lexeme) (end : Place) → bytes_eq t.text w ≡ false → read second (sheet (t ∷ ts) end) ≡ read (fork w first second) (sheet (t ∷ ts) end)
fork_no w first second t ts end h = sym (ap (λ (b : Bool). cond b (read first (sheet ts end)) (read second (sheet (t ∷ ts) end))) h)

-- the one place where it might pass is a fork, whose word cut short could be read the other way
pub cut : {A : Type 0} (g : Grammar A) → Stops g → (ps ts : List Lexeme) → IsCut ps ts → (a b : Place) (y z : A × Sheet) → read g (sheet ts b) ≡ Ok z → read g (sheet ps a) ≡ Ok y → ⊥
unfolding Stops
cut (done x) stops ps ts is_cut a b y z whole front = stops
cut (nothing next) stops ps ts is_cut a b y z whole front = stops
cut (word w next) (inl last) ps ts is_cut a b y z whole front = end_refused w next last.1.0 last.1.1 ps ts is_cut a b y z whole front
cut (word w next) (inr later) ps ts is_cut a b y z whole front = refused (word_in w) (λ _. next) (λ _. not_empty next later) (λ _. cut next later) ps ts is_cut a b y z whole front
cut (number low high next) stops ps ts is_cut a b y z whole front = refused (number_in low high) next (λ n. not_empty (next n) (stops n)) (λ n. cut (next n) (stops n)) ps ts is_cut a b y z whole front
cut (signed size next) stops ps ts is_cut a b y z whole front = refused (signed_in size) next (λ n. not_empty (next n) (stops n)) (λ n. cut (next n) (stops n)) ps ts is_cut a b y z whole front
cut (fork w first second) stops [] ts is_cut a b y z whole front = not_empty second stops.1 a y front
cut (fork w first second) stops (p ∷ ps) [] is_cut a b y z whole front = is_cut
cut (fork w first second) stops (p ∷ ps) (t ∷ ts) (inl same) a b y z whole front =
    elim (cases_Bool (bytes_eq t.text w)) [
      | inl found ↦
          let also : bytes_eq p.text w ≡ true = ap (λ (u : Lexeme). bytes_eq u.text w) same.0 ∙ found in
          cut first stops.0 ps ts same.1 a b y z (fork_yes w first second t ts b found ∙ whole) (fork_yes w first second p ps a also ∙ front)
      | inr absent ↦
          let also : bytes_eq p.text w ≡ false = ap (λ (u : Lexeme). bytes_eq u.text w) same.0 ∙ absent in
          cut second stops.1 (p ∷ ps) (t ∷ ts) (inl same) a b y z (fork_no w first second t ts b absent ∙ whole) (fork_no w first second p ps a also ∙ front)
    ]
cut (fork w first second) stops (p ∷ ps) (t ∷ ts) (inr last) a b y z whole front =
    elim (cases_Bool (bytes_eq p.text w)) [
      | inl found ↦ not_empty first stops.0 a y (subst (λ (qs : List Lexeme). read first (sheet qs a) ≡ Ok y) last.0 (fork_yes w first second p ps a found ∙ front))
      | inr absent ↦
          let past : read second (sheet (p ∷ ps) a) ≡ Ok y = fork_no w first second p ps a absent ∙ front in
          elim (cases_Bool (bytes_eq t.text w)) [
            | inl found ↦
                let is_end : p.text ≡ end_word = one_token second stops.1 p a y (subst (λ (qs : List Lexeme). read second (sheet (p ∷ qs) a) ≡ Ok y) last.0 past) in
                let w_is : t.text ≡ w = (bytes_eq-Decides t.text w).0 found in
                not_other w last.1.more (sym w_is ∙ last.1.whole_is ∙ ap (λ (v : List ℕ). v ++ last.1.more) is_end) stops.2
            | inr other ↦ cut second stops.1 (p ∷ ps) (t ∷ ts) (inr last) a b y z (fork_no w first second t ts b other ∙ whole) past
          ]
    ]
cut (barred w next) stops ps ts is_cut a b y z whole front =
    cut next stops ps ts is_cut a b y z (bind-ok (barred_at w (sheet ts b)) (λ _. read next (sheet ts b)) z whole).1.1 (bind-ok (barred_at w (sheet ps a)) (λ _. read next (sheet ps a)) y front).1.1
cut (only w next) stops ps ts is_cut a b y z whole front = refused (only_in w) (λ _. next) (λ _. not_empty next stops) (λ _. cut next stops) ps ts is_cut a b y z whole front

-- ---- the last token of a text

-- the last of these is `end`
pub record Ends (ts : List Lexeme) : Type 0 where
  pub before : List Lexeme
  pub last : Lexeme
  pub whole : ts ≡ before ++ last ∷ []
  pub is_end : last.text ≡ end_word

one_more : (t : Lexeme) (ts : List Lexeme) → Ends ts → Ends (t ∷ ts)
one_more t ts e = record { before = t ∷ e.before; last = e.last; whole = ap (λ (us : List Lexeme). t ∷ us) e.whole; is_end = e.is_end }

ends_after : {A X : Type 0} (reading : Lexeme → Result X Fault) (next : X → Grammar A) → ((x : X) (ts : List Lexeme) (end : Place) (y : A × Sheet) → read (next x) (sheet ts end) ≡ Ok y → Ends ts)
    → (ts : List Lexeme) (end : Place) (y : A × Sheet) → (token_at reading (sheet ts end) >>= λ x. read (next x.0) x.1) ≡ Ok y → Ends ts
ends_after reading next later [] end y h = absurd (not_ok _ y h)
ends_after reading next later (t ∷ ts) end y h = let b = taken reading next t ts end y h in one_more t ts (later b.0 ts end y b.1.1)

end_ends : {A : Type 0} (w : List ℕ) (next : Grammar A) (x : A) → w ≡ end_word → next ≡ nothing (done x) → (ts : List Lexeme) (end : Place) (y : A × Sheet) → read (word w next) (sheet ts end) ≡ Ok y → Ends ts
end_ends w next x w_is is [] end y h = absurd (not_ok _ y h)
end_ends w next x w_is is (t ∷ ts) end y h =
    let b = taken (word_in w) (λ _. next) t ts end y h in
    record { before = []; last = t; whole = ap (λ (us : List Lexeme). t ∷ us) (closed next x is ts end y b.1.1); is_end = word_is w t b.0 b.1.0 ∙ w_is }

pub ends_well : {A : Type 0} (g : Grammar A) → Stops g → (ts : List Lexeme) (end : Place) (y : A × Sheet) → read g (sheet ts end) ≡ Ok y → Ends ts
unfolding Stops
ends_well (done x) stops ts end y h = absurd stops
ends_well (nothing next) stops ts end y h = absurd stops
ends_well (word w next) (inl last) ts end y h = end_ends w next last.1.0 last.0 last.1.1 ts end y h
ends_well (word w next) (inr later) ts end y h = ends_after (word_in w) (λ _. next) (λ _. ends_well next later) ts end y h
ends_well (number low high next) stops ts end y h = ends_after (number_in low high) next (λ n. ends_well (next n) (stops n)) ts end y h
ends_well (signed size next) stops ts end y h = ends_after (signed_in size) next (λ n. ends_well (next n) (stops n)) ts end y h
ends_well (fork w first second) stops [] end y h = absurd (not_empty second stops.1 end y h)
ends_well (fork w first second) stops (t ∷ ts) end y h =
    elim (bytes_eq t.text w) as (λ (b : Bool). cond b (read first (sheet ts end)) (read second (sheet (t ∷ ts) end)) ≡ Ok y → Ends (t ∷ ts)) [
      | true ↦ λ k. one_more t ts (ends_well first stops.0 ts end y k)
      | false ↦ λ k. ends_well second stops.1 (t ∷ ts) end y k
    ] h
ends_well (barred w next) stops ts end y h = ends_well next stops ts end y (bind-ok (barred_at w (sheet ts end)) (λ _. read next (sheet ts end)) y h).1.1
ends_well (only w next) stops ts end y h = ends_after (only_in w) (λ _. next) (λ _. ends_well next stops) ts end y h
