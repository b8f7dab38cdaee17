-- Versions of an instance by their number, and the place that a desk or a bench has.
use Rattle.std.specs.Prelude.{ℕ, ◌-◌, ◌<◌, ◌^◌, Option, Some, None}
use Rattle.ct_instance.specs.Instance.{Problem, IsInstance}
use Rattle.ct_instance.specs.Versions.{Level, upto, everything, IsVersion}
use Rattle.ct_version.specs.declared.finished.Finished.{Finished}
use Rattle.ct_version.specs.declared.finished.Finished.TheVariants.{Upto, All}

-- what a version is seen as: its instance and its number, from which the list of moves and the level follow
pub record Edition : Type 0 where
  pub instance : Problem
  pub number : ℕ

-- there is such a version
pub record IsEdition (v : Edition) : Type 0 where
  pub instance : IsInstance v.instance
  pub version : IsVersion v.instance v.number
  pub small : v.number < 2 ^ 62

abbrev pub level_seen : Finished → Level
level_seen (Upto g) = upto g
level_seen All = everything

-- the level below the next grade, and everything where there is none
abbrev pub level_below : Option ℕ → Level
level_below None = everything
level_below (Some g) = upto (g - 1)
