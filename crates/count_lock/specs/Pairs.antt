-- Pairs of a pass's number and its count, and the counts of a value.
use Rattle.std.specs.Prelude.{◌≡◌, ℕ, ◌+◌, ◌<◌, ◌≤◌, List, [], ◌∷◌, slice_index, slice_set, ◌==◌, if◌then◌else◌}

-- the number and the count of the first pair
abbrev pub first_number : List (ℕ × ℕ) → ℕ
first_number [] = 0
first_number (x ∷ xs) = x.0

abbrev pub first_count : List (ℕ × ℕ) → ℕ
first_count [] = 0
first_count (x ∷ xs) = x.1

-- each pair has as its count the one that these counts have for its number
abbrev pub Agree : List ℕ → List (ℕ × ℕ) → Type 0
Agree counts [] = Unit {0}
Agree counts (x ∷ xs) = (slice_index counts x.0 ≡ x.1) × Agree counts xs

-- how many of the pairs have this number
abbrev pub times : ℕ → List (ℕ × ℕ) → ℕ
times number [] = 0
times number (x ∷ xs) = (if x.0 == number then 1 else 0) + times number xs

-- there is a pair for every number below this
abbrev pub HasEach : ℕ → List (ℕ × ℕ) → Type 0
HasEach passes pairs = (number : ℕ) → number < passes → 1 ≤ times number pairs

-- the pairs of these counts, with the numbers from this one on
abbrev pub numbered : ℕ → List ℕ → List (ℕ × ℕ)
numbered from [] = []
numbered from (c ∷ cs) = (from, c) ∷ numbered (from + 1) cs

-- the pairs with the counts that these have for their numbers
abbrev pub recounted : List ℕ → List (ℕ × ℕ) → List (ℕ × ℕ)
recounted counts [] = []
recounted counts (x ∷ xs) = (x.0, slice_index counts x.0) ∷ recounted counts xs

-- the last pair, and those before it
abbrev pub last_pair : List (ℕ × ℕ) → List (ℕ × ℕ)
last_pair [] = []
last_pair (x ∷ []) = x ∷ []
last_pair (x ∷ y ∷ xs) = last_pair (y ∷ xs)

abbrev pub but_last : List (ℕ × ℕ) → List (ℕ × ℕ)
but_last [] = []
but_last (x ∷ []) = []
but_last (x ∷ y ∷ xs) = x ∷ but_last (y ∷ xs)

-- the counts are as before, but that of this number may be larger
pub record GrowsAt (number : ℕ) (before after : List ℕ) : Type 0 where
  pub others : after ≡ slice_set before number (slice_index after number)
  pub larger : slice_index before number ≤ slice_index after number
