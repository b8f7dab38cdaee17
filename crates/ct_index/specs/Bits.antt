-- What a block keeps of its heads, as the fields of its index.
use Rattle.std.specs.Prelude.{ℕ, ◌≡◌, List, [], ◌∷◌, ◌++◌, length, All}
use Rattle.ct_index.specs.declared.bits.HeadBits.{HeadBits}
use Rattle.ct_index.specs.Table.{IsBlock}

-- the index is of these heads
abbrev pub IsIndex : List (List ℕ) → HeadBits → Type 0
IsIndex heads b = IsBlock heads b.rows.items b.supports.items b.decided b.shared

-- an index of so many heads of one width becomes an index of the same heads
abbrev pub KeepsIndex : HeadBits → HeadBits → List ℕ → ℕ → Type 0
KeepsIndex old new head index =
    (heads : List (List ℕ)) → length heads ≡ index → All (λ h. length h ≡ length head) heads → IsIndex heads old → IsIndex heads new

-- an index of so many heads of one width becomes an index of these and the head
abbrev pub AddsHead : HeadBits → HeadBits → List ℕ → ℕ → Type 0
AddsHead old new head index =
    (heads : List (List ℕ)) → length heads ≡ index → All (λ h. length h ≡ length head) heads → IsIndex heads old → IsIndex (heads ++ head ∷ []) new

-- the same index in other memory
pub record AreEqual (old new : HeadBits) : Type 0 where
  pub rows : new.rows.items ≡ old.rows.items
  pub supports : new.supports.items ≡ old.supports.items
  pub decided : new.decided ≡ old.decided
  pub shared : new.shared ≡ old.shared
