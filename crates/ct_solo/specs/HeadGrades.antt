-- The grades of the heads of a list of moves.
use Rattle.std.specs.Prelude.{ℕ, List, map}
use Rattle.ct_instance.specs.Instance.{Problem, grade_of}
use Rattle.ct_instance.specs.TestSet.{Binomial}
use Rattle.ct_instance.specs.Jobs.{the_move, numbers_after}

-- that of the move with this number
abbrev pub head_grade_of : Problem → List Binomial → ℕ → ℕ
head_grade_of i ms k = grade_of i.columns (the_move ms k).head

-- those of the first n moves
abbrev pub grades_to : Problem → List Binomial → ℕ → List ℕ
grades_to i ms n = map (head_grade_of i ms) (numbers_after 0 n)
