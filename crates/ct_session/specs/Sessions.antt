-- What a session is seen as, and which version it has after a pin and after a solve.
use Rattle.std.specs.Prelude.{ℕ, ◌+◌, ◌-◌, ◌/◌, ◌%◌, ◌≤◌, ◌<◌, ◌≡◌, ◌⊎◌, nat_eq, cond, max, List, Some, None}
use Rattle.ct_instance.specs.Versions.{upto, level_of}
use Rattle.ct_instance.specs.Reach.{full_grade_up_to}
use Rattle.ct_version.specs.Editions.{Edition}
use Rattle.ct_version.specs.Desks.{Place, raised}

-- a session: its desk, the version that it has pinned, and the point of its last answer
pub record SessionSeen (D : Type 0) : Type 0 where
  pub desk : D
  pub pinned : Edition
  pub point : List ℕ

-- ---- pins

-- the greater of the number that is held and the number that a word tells: half of it where it is even
abbrev pub newest : ℕ → ℕ → ℕ
newest held word = cond (nat_eq (word % 2) 0) (max held (word / 2)) held

-- no pin was refused for memory in between, and the number of refused pins had room to tell one
abbrev pub IsCalm : ℕ → ℕ → Type 0
IsCalm before after = (before < raised before) × (after ≡ before)

-- a counter of 64 bits only rises
abbrev pub Rises : ℕ → ℕ → Type 0
Rises before after = before ≤ 18446744073709551615 → (before ≤ after) × (after ≤ 18446744073709551615)

-- which number is pinned after a pin that found this word, where `before` and `after` are the numbers of refused pins: the
-- newest one, but that the old one stays where a newer one was refused for memory
pub record IsRepinned (held word before after now : ℕ) : Type 0 where
  pub either : (now ≡ held) ⊎ (now ≡ newest held word)
  pub calm : IsCalm before after → now ≡ newest held word
  pub refused : before < after → (now ≡ held) × (held < newest held word) × (after ≡ before + 1)
  pub rises : Rises before after

-- ---- solves

-- the limit doesn't stand before the grade g
abbrev pub IsOpenTo : Place → ℕ → Type 0
IsOpenTo p g = full_grade_up_to p.instance p.limit g ≡ None

-- the full grade f is at most g, and the version is finished up to the grade before it
pub record IsFullAt (p : Place) (g number f : ℕ) : Type 0 where
  pub grade : full_grade_up_to p.instance p.limit g ≡ Some f
  pub level : level_of p.instance number ≡ upto (f - 1)
