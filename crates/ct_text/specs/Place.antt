-- Places in a text, by its bytes.
use Rattle.std.specs.Prelude.{ℕ, ◌+◌, ◌==◌, if◌then◌else◌, List, [], ◌∷◌}
use Rattle.ct_text.specs.declared.place.Place.{Place}

-- the place after a byte that stands at p; a line ends with LF
abbrev pub past : Place → ℕ → Place
past p byte = if byte == 10 then record { line = p.line + 1; column = 1 } else record { line = p.line; column = p.column + 1 }

-- the place after these bytes
abbrev pub place_after : Place → List ℕ → Place
place_after p [] = p
place_after p (byte ∷ bytes) = place_after (past p byte) bytes
