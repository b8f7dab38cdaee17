-- Counts of faults.
use Rattle.std.specs.Prelude.{ℕ, ◌+◌, ◌-◌, ◌^◌, ◌≤◌, min, List, count_by}
use Rattle.std.specs.Str.{bytes_eq}

-- one more, up to the greatest u64, where a count stays
abbrev pub one_more : ℕ → ℕ
one_more count = min (count + 1) (2 ^ 64 - 1)

-- the count rose, or stands at its end
abbrev pub Rose : ℕ → ℕ → Type 0
Rose before now = one_more before ≤ now

-- how often the name stands among these
abbrev pub count_of : List (List ℕ) → List ℕ → ℕ
count_of names name = count_by (bytes_eq name) names
