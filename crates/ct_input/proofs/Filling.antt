-- Texts whose places can each be filled: the fewest tokens of each are accepted.
use Rattle.std.proofs.Common.{◌≡◌, ℕ, ◌≤◌, Bool, true, false, List, [], ◌∷◌, Ok, ℤ, pos, refl}
use Rattle.std.specs.Prelude.{codes, is_ok, IsTrue}
use Rattle.std.specs.List.{AllByRecursion}
use Rattle.std.specs.Str.{bytes_eq}
use Rattle.std.proofs.lemmas.Slice.Eq.{bytes_eq-Decides}
use Rattle.std.proofs.lemmas.Bool.{le-leb}
use Rattle.ct_text.specs.declared.place.Place.{Place}
use Rattle.ct_text.specs.Tokens.{Lexeme}
use Rattle.ct_text.specs.Numbers.{natural_of, signed_of}
use Rattle.ct_input.specs.Sheet.{Sheet}
use Rattle.ct_input.specs.Grammar.{Grammar, done, nothing, word, number, signed, fork, barred, only, read, is_next}
use Rattle.ct_input.specs.FirstFault.{IsSpelling, Accepts}

abbrev pub sheet : List Lexeme → Place → Sheet
sheet tokens end = record { tokens = tokens; end = end }

-- a token somewhere
abbrev pub spelled : List ℕ → Lexeme
spelled text = record { place = record { line = 1; column = 1 }; text = text }

-- the word that ends a text
abbrev pub end_word : List ℕ
end_word = codes "end"

-- a number that stands in each place
abbrev pub one : List ℕ
one = 49 ∷ []

-- tokens of a text of the grammar: the fewest, and each number is 1
unfoldable pub fill : {A : Type 0} → Grammar A → List Lexeme
fill (done x) = []
fill (nothing next) = []
fill (word w next) = spelled w ∷ fill next
fill (number low high next) = spelled one ∷ fill (next 1)
fill (signed size next) = spelled one ∷ fill (next (pos 1))
fill (fork w first second) = fill second
fill (barred w next) = fill next
fill (only w next) = spelled w ∷ fill next

-- the first word of these, where after comes after them
unfoldable pub opens : {A : Type 0} → List ℕ → Grammar A → List ℕ
opens after (done x) = after
opens after (nothing next) = after
opens after (word w next) = w
opens after (number low high next) = one
opens after (signed size next) = one
opens after (fork w first second) = opens after second
opens after (barred w next) = opens after next
opens after (only w next) = w

-- Each place can be filled: 1 is within its limits, and what comes after a repetition doesn't begin as it does. Nothing
-- can be asked to be the end only of a whole text.
unfoldable pub Fills : {A : Type 0} → Bool → List ℕ → Grammar A → Type 0
Fills whole after (done x) = Unit {0}
Fills {A} whole after (nothing next) = IsTrue whole × ((x : A) × (next ≡ done x))
Fills whole after (word w next) = IsSpelling (spelled w) × Fills whole after next
Fills whole after (number low high next) = (low ≤ 1) × (1 ≤ high) × ((n : ℕ) → Fills whole after (next n))
Fills whole after (signed size next) = (1 ≤ size) × ((n : ℤ) → Fills whole after (next n))
Fills whole after (fork w first second) = Fills whole after first × Fills whole after second × (bytes_eq (opens after second) w ≡ false)
Fills whole after (barred w next) = Fills whole after next × (bytes_eq (opens after next) w ≡ false)
Fills whole after (only w next) = IsSpelling (spelled w) × Fills whole after next

-- no text without a token is in the grammar
unfoldable pub Needs : {A : Type 0} → Grammar A → Type 0
Needs (done x) = ⊥
Needs (nothing next) = ⊥
Needs (word w next) = Unit {0}
Needs (number low high next) = Unit {0}
Needs (signed size next) = Unit {0}
Needs (fork w first second) = Needs second
Needs (barred w next) = Needs next
Needs (only w next) = Unit {0}

-- each text ends where nothing may follow, and a word that may not stand any more is followed by a token
unfoldable pub Closes : {A : Type 0} → Grammar A → Type 0
Closes (done x) = ⊥
Closes (nothing next) = Unit {0}
Closes (word w next) = Closes next
Closes {A} (number low high next) = (n : ℕ) → Closes (next n)
Closes {A} (signed size next) = (n : ℤ) → Closes (next n)
Closes (fork w first second) = Closes first × Closes second
Closes (barred w next) = Closes next × Needs next
Closes (only w next) = Closes next

pub needs_token : {A : Type 0} (g : Grammar A) → Needs g → (end : Place) → is_ok (read g (sheet [] end)) ≡ false
unfolding Needs
needs_token (done x) h end = absurd h
needs_token (nothing next) h end = absurd h
needs_token (word w next) h end = refl
needs_token (number low high next) h end = refl
needs_token (signed size next) h end = refl
needs_token (fork w first second) h end = needs_token second h end
needs_token (barred w next) h end = needs_token next h end
needs_token (only w next) h end = refl

pub true_is_not_false : (b : Bool) → b ≡ true → b ≡ false → ⊥
true_is_not_false b p q = cc

-- ---- the fewest tokens are accepted

one_is_natural : (high : ℕ) → 1 ≤ high → natural_of one high ≡ Ok 1
unfolding natural_of
one_is_natural high h = rw (le-leb 1 high h) refl

one_is_signed : (size : ℕ) → 1 ≤ size → signed_of one size ≡ Ok (pos 1)
unfolding signed_of
one_is_signed size h = rw (one_is_natural size h) refl

one_is_spelling : IsSpelling (spelled one)
one_is_spelling = record { some = λ e. cc; plain = refl }

itself : (w : List ℕ) → bytes_eq w w ≡ true
itself w = (bytes_eq-Decides w w).1 refl

opens_not : {A : Type 0} (whole : Bool) (after w : List ℕ) (g : Grammar A) (end : Place) → bytes_eq (opens after g) w ≡ false → is_next w (sheet (fill g) end) ≡ false
unfolding fill opens
opens_not whole after w (done x) end h = refl
opens_not whole after w (nothing next) end h = refl
opens_not whole after w (word v next) end h = h
opens_not whole after w (number low high next) end h = h
opens_not whole after w (signed size next) end h = h
opens_not whole after w (fork v first second) end h = opens_not whole after w second end h
opens_not whole after w (barred v next) end h = opens_not whole after w next end h
opens_not whole after w (only v next) end h = h

pub filled : {A : Type 0} (whole : Bool) (after : List ℕ) (g : Grammar A) → Fills whole after g → Accepts g (fill g)
unfolding fill opens Fills
filled whole after (done x) h end = refl
filled whole after (nothing next) h end = rw h.1.1 refl
filled whole after (word w next) h end = rw (itself w) (filled whole after next h.1 end)
filled whole after (number low high next) h end = rw (one_is_natural high h.1, le-leb low 1 h.0) (filled whole after (next 1) (h.2 1) end)
filled whole after (signed size next) h end = rw (one_is_signed size h.0) (filled whole after (next (pos 1)) (h.1 (pos 1)) end)
filled whole after (fork w first second) h end = rw (opens_not whole after w second end h.2) (filled whole after second h.1 end)
filled whole after (barred w next) h end = rw (opens_not whole after w next end h.1) (filled whole after next h.0 end)
filled whole after (only w next) h end = rw (itself w) (filled whole after next h.1 end)

pub fill_spelled : {A : Type 0} (whole : Bool) (after : List ℕ) (g : Grammar A) → Fills whole after g → AllByRecursion IsSpelling (fill g)
unfolding fill Fills
fill_spelled whole after (done x) h = tt
fill_spelled whole after (nothing next) h = tt
fill_spelled whole after (word w next) h = (h.0, fill_spelled whole after next h.1)
fill_spelled whole after (number low high next) h = (one_is_spelling, fill_spelled whole after (next 1) (h.2 1))
fill_spelled whole after (signed size next) h = (one_is_spelling, fill_spelled whole after (next (pos 1)) (h.1 (pos 1)))
fill_spelled whole after (fork w first second) h = fill_spelled whole after second h.1
fill_spelled whole after (barred w next) h = fill_spelled whole after next h.0
fill_spelled whole after (only w next) h = (h.0, fill_spelled whole after next h.1)
