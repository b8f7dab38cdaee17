-- What a solo is seen as, and what completing it gives.
use Rattle.std.specs.Prelude.{ℕ, ◌≡◌, Bool, true, false, Some, suc}
use Rattle.std.specs.Arc.{arc_value}
use Rattle.ct_instance.specs.Instance.{Problem}
use Rattle.ct_instance.specs.Versions.{Covers, level_of, IsFullGrade}
use Rattle.ct_instance.specs.Reach.{opened_grade}
use Rattle.ct_levels.specs.Levels.{IsFirstVersion}
use Rattle.ct_version.specs.declared.pins.Helped.{Helped}
use Rattle.ct_version.specs.declared.pins.Stop.{Stop}
use Rattle.ct_version.specs.declared.pins.Stop.TheVariants.{Full, Memory as OutOfMemory}
use Rattle.ct_version.specs.Editions.{Edition}
use Rattle.ct_version.specs.Desks.{Place, IsHelp, IsFullMark}

-- the instance, the limit on the number of moves, the greatest grade that it is asked for, and the number of its version
pub record SoloSeen : Type 0 where
  pub instance : Problem
  pub limit : ℕ
  pub top : ℕ
  pub number : ℕ

abbrev pub place_of : SoloSeen → Place
place_of s = record { instance = s.instance; limit = s.limit }

abbrev pub edition_of : SoloSeen → Edition
edition_of s = record { instance = s.instance; number = s.number }

-- the level of its version is at least g
abbrev pub IsCovered : SoloSeen → ℕ → Type 0
IsCovered s g = Covers (level_of s.instance s.number) g

-- all but the number stays
abbrev pub IsSameSolo : SoloSeen → SoloSeen → Type 0
IsSameSolo s t = t ≡ record s { number = t.number }

-- help up to g by the version that is left: the one that was there, where that covers g, and else the first that does
pub record IsCompleted (s : SoloSeen) (g : ℕ) (t : SoloSeen) (h : Helped) : Type 0 where
  pub help : IsHelp (place_of s) g h
  pub version : arc_value h.version ≡ edition_of t
  pub unchanged : IsCovered s g → t ≡ s
  pub first : (IsCovered s g → ⊥) → IsFirstVersion s.instance g t.number

-- the mark, or want of memory
abbrev pub IsEnded : SoloSeen → ℕ → SoloSeen → Stop → Type 0
IsEnded s g t (Full m) = IsFullMark (place_of s) g m × (arc_value m.version ≡ edition_of t)
IsEnded s g t OutOfMemory = Unit {0}

-- one version further, or where it was, since the grade that is open is full
abbrev pub IsAdvanced : SoloSeen → SoloSeen → Bool → Type 0
IsAdvanced s t true = t ≡ record s { number = suc s.number }
IsAdvanced s t false = (t ≡ s) × ((d : ℕ) × (opened_grade s.instance s.number ≡ Some d) × IsFullGrade s.instance s.limit d)
