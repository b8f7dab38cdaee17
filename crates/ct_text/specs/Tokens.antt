-- The tokens of a text, by its bytes.
use Rattle.std.specs.Prelude.{ℕ, ◌+◌, ◌<◌, ◌^◌, ◌==◌, Bool, false, not, ◌||◌, if◌then◌else◌, IsTrue, List, [], ◌∷◌, length, take_while}
use Rattle.ct_text.specs.declared.place.Place.{Place}
use Rattle.ct_text.specs.Place.{past, place_after}

-- a token without where it lies in memory
pub record Lexeme : Type 0 where
  pub place : Place
  pub text : List ℕ

-- the place past a token, which holds no LF
abbrev pub past_token : Lexeme → Place
past_token token = record { line = token.place.line; column = token.place.column + length token.text }

-- a text as its reader sees it: the tokens that are left, the place where it stands, the place of the end
pub record Text : Type 0 where
  pub tokens : List Lexeme
  pub place : Place
  pub end : Place

-- space, tab, LF, CR
abbrev pub is_blank : ℕ → Bool
is_blank byte = byte == 32 || byte == 9 || byte == 10 || byte == 13

-- neither a blank nor '#'
abbrev pub is_plain : ℕ → Bool
is_plain byte = not (is_blank byte || byte == 35)

-- where the reading of a text stands
pub data Mode : Type 0 where
  between inside comment : Mode

-- A comment goes from '#' up to LF.
abbrev pub mode_after : Mode → ℕ → Mode
mode_after comment byte = if byte == 10 then between else comment
mode_after _ byte = if is_plain byte then inside else if byte == 35 then comment else between

-- a token begins at a plain byte that is in no token and no comment
abbrev pub begins : Mode → ℕ → Bool
begins between byte = is_plain byte
begins _ byte = false

-- the tokens of what is left: each is the longest run of plain bytes from where it begins
abbrev pub tokens_in : Mode → Place → List ℕ → List Lexeme
tokens_in mode place [] = []
tokens_in mode place (byte ∷ bytes) =
    let others = tokens_in (mode_after mode byte) (past place byte) bytes in
    if begins mode byte then record { place = place; text = take_while is_plain (byte ∷ bytes) } ∷ others else others

abbrev pub text_in : Mode → Place → List ℕ → Text
text_in mode place bytes = record { tokens = tokens_in mode place bytes; place = place; end = place_after place bytes }

-- a whole text
abbrev pub text_of : List ℕ → Text
text_of bytes = text_in between (record { line = 1; column = 1 }) bytes

-- the first byte, if there is one, begins a token
abbrev pub BeginsToken : List ℕ → Type 0
BeginsToken [] = Unit {0}
BeginsToken (byte ∷ bytes) = IsTrue (is_plain byte)

-- the places of these bytes fit in 64 bits
pub record Roomy (place : Place) (bytes : List ℕ) : Type 0 where
  pub lines : place.line + length bytes < 2 ^ 64
  pub columns : place.column + length bytes < 2 ^ 64
