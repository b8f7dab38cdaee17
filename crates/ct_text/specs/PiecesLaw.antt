-- What the pieces of a text are.
use Rattle.std.specs.Prelude.{◌≡◌, ◌≢◌, ◌↔◌, ℕ, ◌==◌, not, Bool, IsTrue, List, []}
use Rattle.std.specs.List.{list_all, AllByRecursion, join_with_byte}
use Rattle.ct_text.specs.Pieces.{split}

-- the byte stands nowhere in the piece
abbrev pub lacks : ℕ → List ℕ → Bool
lacks separator piece = list_all (λ byte. not (byte == separator)) piece

-- there is a piece, and none holds the separator
abbrev pub ArePieces : ℕ → List (List ℕ) → Type 0
ArePieces separator pieces = (pieces ≢ []) × AllByRecursion (λ piece. IsTrue (lacks separator piece)) pieces

-- the pieces of a text are those without a separator that give the text where they are joined by it
abbrev pub PiecesJoinToText : Type 0
PiecesJoinToText = (separator : ℕ) (bytes : List ℕ) (pieces : List (List ℕ)) → (split separator bytes ≡ pieces) ↔ (ArePieces separator pieces × (join_with_byte separator pieces ≡ bytes))
