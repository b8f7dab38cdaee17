-- Texts of lines of words.
use Rattle.std.specs.Prelude.{ℕ, List, [], ◌∷◌, ◌++◌, map, decimal, codes, ◌≤◌}
use Rattle.std.specs.List.{join_with_byte, flat_map}
use Rattle.ct_vectors.specs.declared.limits.TheConstants.{GRADE_LIMIT, MOVE_LIMIT}

-- lines, each ended by LF
abbrev pub ended : List (List ℕ) → List ℕ
ended [] = []
ended (line ∷ lines) = line ++ (10 ∷ ended lines)

-- lines of words, parted by one space
abbrev pub text_of : List (List (List ℕ)) → List ℕ
text_of lines = ended (map (join_with_byte 32) lines)

-- the last line of a text
abbrev pub end_words : List (List ℕ)
end_words = codes "end" ∷ []

-- ---- a walk in words

-- the number of a move, from 1, and how many times it is taken
abbrev pub IsStep : ℕ × ℕ → Type 0
IsStep step = ((1 ≤ step.0) × (step.0 ≤ MOVE_LIMIT)) × ((1 ≤ step.1) × (step.1 ≤ GRADE_LIMIT))

-- number*times
abbrev pub step_word : ℕ × ℕ → List ℕ
step_word step = decimal step.0 ++ (42 ∷ decimal step.1)

-- its steps, or - for the walk without steps
abbrev pub walk_words : List (ℕ × ℕ) → List (List ℕ)
walk_words [] = codes "-" ∷ []
walk_words (step ∷ steps) = step_word step ∷ map step_word steps

-- words, each after a space
abbrev pub spaced : List (List ℕ) → List ℕ
spaced words = flat_map (λ word. 32 ∷ word) words
