-- What the tokens of a text are, in terms of its lines.
use Rattle.std.specs.Prelude.{◌≡◌, ◌≢◌, ℕ, ◌+◌, ◌==◌, ◌||◌, not, Bool, false, List, [], ◌∷◌, ◌++◌, length, count_by, IsTrue, ◌↔◌, ◌⊎◌}
use Rattle.std.specs.List.{list_all}
use Rattle.ct_text.specs.Tokens.{Lexeme, is_plain, text_of}

-- neither LF nor '#'
abbrev pub is_in_line : ℕ → Bool
is_in_line byte = not (byte == 10 || byte == 35)

-- whole lines: nothing, or what ends with LF
abbrev pub AreLines : List ℕ → Type 0
AreLines [] = Unit {0}
AreLines (byte ∷ []) = byte ≡ 10
AreLines (byte ∷ next ∷ bytes) = AreLines (next ∷ bytes)

-- the last byte, if there is one, is not plain
abbrev pub ends_plain : List ℕ → Bool
ends_plain [] = false
ends_plain (byte ∷ []) = is_plain byte
ends_plain (byte ∷ next ∷ bytes) = ends_plain (next ∷ bytes)

abbrev pub begins_plain : List ℕ → Bool
begins_plain [] = false
begins_plain (byte ∷ bytes) = is_plain byte

-- The token stands in the text behind whole lines and a part of its line that holds no '#'. It is a longest run of
-- plain bytes, and its place counts the lines and the bytes before it.
pub record StandsIn (bytes : List ℕ) (token : Lexeme) : Type 0 where
  pub above : List ℕ
  pub line : List ℕ
  pub after : List ℕ
  pub parts : bytes ≡ above ++ (line ++ (token.text ++ after))
  pub are_lines : AreLines above
  pub no_comment : IsTrue (list_all is_in_line line)
  pub starts : ends_plain line ≡ false
  pub some : token.text ≢ []
  pub plain : IsTrue (list_all is_plain token.text)
  pub ends : begins_plain after ≡ false
  pub place : token.place ≡ record { line = 1 + count_by (λ byte. byte == 10) above; column = 1 + length line }

-- one of a list
abbrev pub IsAmong : Lexeme → List Lexeme → Type 0
IsAmong token [] = ⊥
IsAmong token (first ∷ others) = (token ≡ first) ⊎ IsAmong token others

-- the tokens of a text are those that stand in it
abbrev pub TokensStandInText : Type 0
TokensStandInText = (bytes : List ℕ) (token : Lexeme) → IsAmong token (text_of bytes).tokens ↔ StandsIn bytes token
