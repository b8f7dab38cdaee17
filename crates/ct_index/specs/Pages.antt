-- A list that is kept in pages, all full but the last.
use Rattle.std.specs.Prelude.{ℕ, ◌+◌, ◌≤◌, ◌<◌, ◌≡◌, List, length, slice_index_or}
use Rattle.std.specs.List.{flat_map}
use Rattle.ct_vectors.specs.declared.limits.TheConstants.{MOVE_LIMIT}

-- each page has at most 128 entries, and only the last may have fewer; f says which entries a page has
pub record ArePages {P X : Type 0} (f : P → List X) (pages : List P) : Type 0 where
  pub small : (k : ℕ) (d : P) → k < length pages → length (f (slice_index_or pages k d)) ≤ 128
  pub full : (k : ℕ) (d : P) → k + 1 < length pages → length (f (slice_index_or pages k d)) ≡ 128

-- so that there are no more entries than a list keeps moves
pub record IsPaged {P X : Type 0} (f : P → List X) (pages : List P) : Type 0 where
  pub all : ArePages f pages
  pub most : length (flat_map f pages) ≤ MOVE_LIMIT

-- the first n pages are full
abbrev pub AreFullBelow : {P X : Type 0} → (P → List X) → List P → ℕ → Type 0
AreFullBelow {P} f pages n = (k : ℕ) (d : P) → k < n → length (f (slice_index_or pages k d)) ≡ 128
