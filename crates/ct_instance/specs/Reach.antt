-- Which grade a version opens, which version covers a grade, and how far a limit on the number of moves lets one come.
use Rattle.std.specs.Prelude.{ℕ, ◌+◌, ◌-◌, Bool, true, nat_le, nat_lt, Option, Some, None, unwrap_or, length, find, zero, suc}
use Rattle.ct_vectors.specs.Vectors.{up_to}
use Rattle.ct_instance.specs.Instance.{Problem}
use Rattle.ct_instance.specs.TestSet.{test_list}
use Rattle.ct_instance.specs.Versions.{Level, upto, everything, level_of}

-- the grade that follows a level
abbrev pub grade_after : Level → Option ℕ
grade_after (upto l) = Some (l + 1)
grade_after everything = None

-- the grade that version k opens: none where it is finished for every grade
abbrev pub opened_grade : Problem → ℕ → Option ℕ
opened_grade i k = grade_after (level_of i k)

-- the grade that was opened last to make version k, and 0 for version 0
abbrev pub last_opened : Problem → ℕ → ℕ
last_opened i zero = 0
last_opened i (suc k) = unwrap_or (opened_grade i k) 0

-- whether the level is at least g
abbrev pub covers : Level → ℕ → Bool
covers (upto l) g = nat_le g l
covers everything g = true

-- the number of the first version that covers g; version k covers k, so it is at most g
unfoldable pub first_version_from : Problem → ℕ → ℕ
first_version_from i g = unwrap_or (find (λ k. covers (level_of i k) g) (up_to g)) 0

-- the level that covers g: the first one that is at least g
abbrev pub first_level_from : Problem → ℕ → Level
first_level_from i g = level_of i (first_version_from i g)

-- the full grade, where it is at most g
unfoldable pub full_grade_up_to : Problem → ℕ → ℕ → Option ℕ
full_grade_up_to i limit g = find (λ h. nat_lt limit (length (test_list i h))) (up_to g)

-- how far a completion for g comes: to the grade before the full grade where that is at most g, and else to the level
-- that covers g
unfoldable pub reach_of : Problem → ℕ → ℕ → Level
reach_of i limit g = reach (full_grade_up_to i limit g)
  where
    reach : Option ℕ → Level
    reach None = first_level_from i g
    reach (Some f) = upto (f - 1)
