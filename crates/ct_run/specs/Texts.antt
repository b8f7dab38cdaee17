-- What the texts of all commands have in common.
use Rattle.std.specs.Prelude.{ℕ, List, [], ◌∷◌}

-- LF
abbrev pub newline : List ℕ
newline = 10 ∷ []
