-- The first of some rising levels that covers a grade.
use Rattle.std.specs.Prelude.{ℕ, ◌-◌, ◌≤◌, ◌<◌, List, length, get_or}
use Rattle.ct_instance.specs.Versions.{Covers}
use Rattle.ct_version.specs.declared.finished.Finished.{Finished}
use Rattle.ct_version.specs.declared.finished.Finished.TheVariants.{All}
use Rattle.ct_version.specs.Editions.{level_seen}

abbrev pub CoversAt : List Finished → ℕ → ℕ → Type 0
CoversAt levels g k = Covers (level_seen (get_or levels k All)) g

-- the last of them covers it, and with one each later one does
pub record AreRising (levels : List Finished) (g : ℕ) : Type 0 where
  pub some : 0 < length levels
  pub last : CoversAt levels g (length levels - 1)
  pub rise : (j k : ℕ) → j ≤ k → k < length levels → CoversAt levels g j → CoversAt levels g k

pub record IsFirstCovering (levels : List Finished) (g k : ℕ) : Type 0 where
  pub within : k < length levels
  pub covers : CoversAt levels g k
  pub first : (j : ℕ) → j < k → CoversAt levels g j → ⊥
