-- Which line of a text is at fault.
use Rattle.std.specs.Prelude.{◌≡◌, ◌≢◌, ℕ, ◌+◌, IsTrue, List, [], ◌∷◌, ◌++◌, length}
use Rattle.std.specs.List.{AllByRecursion}
use Rattle.ct_text.specs.PiecesLaw.{lacks}
use Rattle.ct_lines.specs.Texts.{ended}

-- Why the first line of the rest is at fault, below whole lines that aren't: there is no text with the same lines above
-- that has it there, or the text stops here early, or it goes on after its end.
pub data Cause (Is : List ℕ → Type 0) (above rest : List ℕ) : Type 0 where
  not_there : (here after more : List ℕ) → rest ≡ here ++ (10 ∷ after) → IsTrue (lacks 10 here) → Is (above ++ more) → ((later : List ℕ) → Is (above ++ (here ++ (10 ∷ later))) → ⊥) → Cause Is above rest
  stops : (more : List ℕ) → IsTrue (lacks 10 rest) → Is (above ++ more) → Cause Is above rest
  past_end : rest ≢ [] → Is above → Cause Is above rest

-- The bytes are no text, and this line, counted from 1, is at fault.
pub record IsFaultLine (Is : List ℕ → Type 0) (bytes : List ℕ) (line : ℕ) : Type 0 where
  pub above : List (List ℕ)
  pub rest : List ℕ
  pub are_lines : AllByRecursion (λ line. IsTrue (lacks 10 line)) above
  pub parts : bytes ≡ ended above ++ rest
  pub number : line ≡ length above + 1
  pub cause : Cause Is (ended above) rest
  pub no_text : Is bytes → ⊥
