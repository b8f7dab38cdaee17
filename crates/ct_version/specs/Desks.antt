-- What a desk gives: pins by the words that they find, and help up to a grade.
use Rattle.std.specs.Prelude.{ℕ, ◌+◌, ◌-◌, ◌*◌, ◌/◌, ◌%◌, ◌≤◌, ◌<◌, ◌≡◌, ◌++◌, min, List, [], ◌∷◌, length, drop, Some, None}
use Rattle.std.specs.Arc.{arc_value}
use Rattle.ct_instance.specs.Instance.{Problem}
use Rattle.ct_instance.specs.Versions.{Covers, upto, level_of, version_list, IsVersion}
use Rattle.ct_instance.specs.Reach.{first_level_from, full_grade_up_to}
use Rattle.ct_version.specs.declared.pins.Helped.{Helped}
use Rattle.ct_version.specs.declared.pins.FullMark.{FullMark}
use Rattle.ct_version.specs.declared.pins.Stop.{Stop}
use Rattle.ct_version.specs.declared.pins.Stop.TheVariants.{Full, Memory as StoppedByMemory}
use Rattle.ct_version.specs.declared.pins.Pin.{Pin}
use Rattle.ct_version.specs.declared.pins.Pin.TheVariants.{Newer, NotNewer, Busy, Memory as PinMemory}
use Rattle.ct_version.specs.Editions.{Edition, level_seen}

-- what a desk or a bench is for: an instance and a limit on the number of moves
pub record Place : Type 0 where
  pub instance : Problem
  pub limit : ℕ

-- a version of that instance whose list is within the limit
pub record IsOfPlace (p : Place) (v : Edition) : Type 0 where
  pub instance : v.instance ≡ p.instance
  pub version : IsVersion p.instance v.number
  pub most : length (version_list p.instance v.number) ≤ p.limit

-- ---- pins

-- what a pin answers by the word that it found, which is twice a version's number, or odd where another has the turn.
-- Want of memory comes only in place of a newer version.
abbrev pub IsPin : Place → ℕ → ℕ → Pin → Type 0
IsPin p held word (Newer v) = (word ≡ 2 * (arc_value v).number) × (held < (arc_value v).number) × IsOfPlace p (arc_value v)
IsPin p held word (NotNewer number) = (word ≡ 2 * number) × (number ≤ held)
IsPin p held word (Busy found) = (word ≡ found) × (word % 2 ≡ 1)
IsPin p held word PinMemory = (word % 2 ≡ 0) × (held < word / 2)

-- one more, where a counter of 64 bits has room
abbrev pub raised : ℕ → ℕ
raised n = min (n + 1) 18446744073709551615

-- the number of refused pins after this one
abbrev pub refused_after : ℕ → Pin → ℕ
refused_after n PinMemory = raised n
refused_after n (Newer v) = n
refused_after n (NotNewer number) = n
refused_after n (Busy found) = n

-- ---- help

-- a version of the place that covers the grade g, with the level that covers g; so the limit doesn't stand before g
pub record IsHelp (p : Place) (g : ℕ) (h : Helped) : Type 0 where
  pub version : IsOfPlace p (arc_value h.version)
  pub covers : Covers (level_of p.instance (arc_value h.version).number) g
  pub level : level_seen h.level ≡ first_level_from p.instance g
  pub open_to : full_grade_up_to p.instance p.limit g ≡ None

-- the full grade is at most g, and the version is finished up to the grade before
pub record IsFullMark (p : Place) (g : ℕ) (m : FullMark) : Type 0 where
  pub version : IsOfPlace p (arc_value m.version)
  pub grade : full_grade_up_to p.instance p.limit g ≡ Some m.grade
  pub finished : level_of p.instance (arc_value m.version).number ≡ upto (m.grade - 1)

abbrev pub IsStop : Place → ℕ → Stop → Type 0
IsStop p g (Full m) = IsFullMark p g m
IsStop p g StoppedByMemory = Unit {0}
