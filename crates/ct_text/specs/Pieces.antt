-- The pieces of a text between separators.
use Rattle.std.specs.Prelude.{ℕ, ◌==◌, Bool, not, List, [], if◌then◌else◌}
use Rattle.std.specs.List.{slice_split, prefix_len}

-- the pieces between the bytes that equal the separator, one more than there are such bytes
abbrev pub split : ℕ → List ℕ → List (List ℕ)
split separator bytes = slice_split (λ byte. byte == separator) bytes

-- none once the last was taken
abbrev pub pieces_left : ℕ → Bool → List ℕ → List (List ℕ)
pieces_left separator is_done left = if is_done then [] else split separator left

-- how many bytes stand before the first separator
abbrev pub first_len : ℕ → List ℕ → ℕ
first_len separator bytes = prefix_len (λ byte. not (byte == separator)) bytes
