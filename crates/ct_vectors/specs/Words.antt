-- Lists of words that only grow: what a pass found, one word after the other.
use Rattle.std.specs.Prelude.{ℕ, ◌≡◌, ◌++◌, List, [], ◌∷◌, length, drop}

-- the word that was found last
abbrev pub latest : List ℕ → ℕ
latest [] = 0
latest (w ∷ []) = w
latest (w ∷ x ∷ ws) = latest (x ∷ ws)

-- the old words, and then more
abbrev pub Extends : List ℕ → List ℕ → Type 0
Extends old new = new ≡ old ++ drop (length old) new
