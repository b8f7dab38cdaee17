-- Texts that were cut short.
use Rattle.std.specs.Prelude.{◌≡◌, ◌⊎◌, ℕ, List, [], ◌∷◌, ◌++◌, IsOk, IsErr, codes}
use Rattle.ct_text.specs.Tokens.{Lexeme, Mode, between, inside, mode_after, text_of}
use Rattle.ct_input.specs.Files.{instance_file, session_file}

-- where the reading of a text stands after some bytes
abbrev pub mode_past : Mode → List ℕ → Mode
mode_past mode [] = mode
mode_past mode (byte ∷ bytes) = mode_past (mode_after mode byte) bytes

-- one of the bytes is of a token
abbrev pub HasTokenByte : Mode → List ℕ → Type 0
HasTokenByte mode [] = ⊥
HasTokenByte mode (byte ∷ bytes) = (mode_after mode byte ≡ inside) ⊎ HasTokenByte (mode_after mode byte) bytes

-- What follows the front has a byte of a token: so the front ends before the last byte of the last token.
abbrev pub IsCutBefore : List ℕ → List ℕ → Type 0
IsCutBefore front more = HasTokenByte (mode_past between front) more

-- the front of an instance file that ends before the last byte of its last token is refused
abbrev pub CutInstanceHasFault : Type 0
CutInstanceHasFault = (front more : List ℕ) → IsOk (instance_file (front ++ more)) → IsCutBefore front more → IsErr (instance_file front)

-- and so is that of a session file
abbrev pub CutSessionsHaveFault : Type 0
CutSessionsHaveFault = (m : ℕ) (front more : List ℕ) → IsOk (session_file m (front ++ more)) → IsCutBefore front more → IsErr (session_file m front)

-- the last token of these bytes is the word `end`
pub record EndsWithEnd (bytes : List ℕ) : Type 0 where
  pub before : List Lexeme
  pub last : Lexeme
  pub tokens : (text_of bytes).tokens ≡ before ++ last ∷ []
  pub word : last.text ≡ codes "end"

abbrev pub InstanceEndsWithEnd : Type 0
InstanceEndsWithEnd = (bytes : List ℕ) → IsOk (instance_file bytes) → EndsWithEnd bytes

abbrev pub SessionsEndWithEnd : Type 0
SessionsEndWithEnd = (m : ℕ) (bytes : List ℕ) → IsOk (session_file m bytes) → EndsWithEnd bytes
