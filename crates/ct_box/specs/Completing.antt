-- The completion of a box, grade by grade: where it stands, what a step adds, and with what it ends.
use Rattle.std.specs.Prelude.{ℕ, ◌-◌, ◌≤◌, ◌<◌, ◌≡◌, ◌↔◌, Option, Some, None, List, length, AllPairs, Contains}
use Rattle.ct_vectors.specs.Vectors.{total}
use Rattle.ct_instance.specs.Instance.{Problem}
use Rattle.ct_instance.specs.TestSet.{Binomial, ComesBefore}
use Rattle.ct_instance.specs.Versions.{least_above}
use Rattle.ct_levels.specs.Levels.{job_grades}
use Rattle.ct_completion.specs.Remainders.{AreRemainders, points_of, IsGroupMove}
use Rattle.ct_box.specs.Box.{box_list, box_list_to, box_jobs_at, IsBoxList, IsBoxFullGrade}

-- the box up to the grade that was opened last, which is within the limit
pub record IsBoxState (i : Problem) (top : List ℕ) (limit last : ℕ) (ms : List Binomial) : Type 0 where
  pub list : IsBoxList i top last ms
  pub most : length ms ≤ limit
  pub within : last ≤ total top

-- the next grade of a job, of those outside the box too, and the group moves of its remainders within the box, in order
pub record IsBoxStep (i : Problem) (top : List ℕ) (last d : ℕ) (ms new : List Binomial) : Type 0 where
  pub next : least_above last (job_grades i ms) ≡ Some d
  pub within : d ≤ total top
  pub remainders : List (Option (List ℕ × List ℕ))
  pub are : AreRemainders i ms (box_jobs_at i top ms d) remainders
  pub exact : (m : Binomial) → Contains new m ↔ IsGroupMove i (points_of remainders) m
  pub ordered : AllPairs (λ m n. ComesBefore i m.head n.head) new

-- no grade, or one above the greatest
abbrev pub IsBeyond : ℕ → Option ℕ → Type 0
IsBeyond most None = Unit {0}
IsBeyond most (Some d) = most < d

-- the whole box, which is within the limit, or its moves below the box full grade
abbrev pub IsBoxDone : Problem → List ℕ → ℕ → List Binomial → Option ℕ → Type 0
IsBoxDone i top limit ms None = (ms ≡ box_list i top) × ((g : ℕ) → length (box_list_to i top g) ≤ limit)
IsBoxDone i top limit ms (Some f) = (ms ≡ box_list_to i top (f - 1)) × IsBoxFullGrade i top limit f
