-- The box: the part of a test list whose heads have a degree within a bound, one number for each row.
use Rattle.std.specs.Prelude.{ℕ, ◌≤◌, ◌<◌, Bool, nat_le, nat_lt, Option, List, filter, find, length, map, All, AllPairs, Contains}
use Rattle.ct_vectors.specs.Vectors.{total, divides, up_to}
use Rattle.ct_instance.specs.declared.jobs.Job.{Job}
use Rattle.ct_instance.specs.Instance.{Problem, degree_of, grade_of}
use Rattle.ct_instance.specs.TestSet.{Binomial, test_list, IsTestHead, IsTestMove, ComesBefore}
use Rattle.ct_instance.specs.Jobs.{job_degree_of, jobs_at}
use Rattle.ct_walk.specs.Laws.{IsWithin}

-- the degree of the head is at most the bound in each row
abbrev pub is_in_box : Problem → List ℕ → Binomial → Bool
is_in_box i top m = divides (degree_of i.columns m.head) top

-- all of the box: no grade within the bound exceeds its sum
unfoldable pub box_list : Problem → List ℕ → List Binomial
box_list i top = filter (is_in_box i top) (test_list i (total top))

-- its moves of grade at most g
unfoldable pub box_list_to : Problem → List ℕ → ℕ → List Binomial
box_list_to i top g = filter (λ m. nat_le (grade_of i.columns m.head) g) (box_list i top)

-- the jobs of a grade within the bound, in job order
unfoldable pub box_jobs_at : Problem → List ℕ → List Binomial → ℕ → List Job
box_jobs_at i top ms g = filter (λ j. divides (job_degree_of i ms j) top) (jobs_at i ms g)

-- test moves within the bound and the grade alone, for each such test head, each head before those after it
pub record IsBoxList (i : Problem) (top : List ℕ) (g : ℕ) (ms : List Binomial) : Type 0 where
  pub sound : All (λ m. IsTestMove i m × IsWithin g top (degree_of i.columns m.head)) ms
  pub complete : (p : List ℕ) → IsTestHead i p → IsWithin g top (degree_of i.columns p) → Contains (map (λ m. m.head) ms) p
  pub ordered : AllPairs (λ m n. ComesBefore i m.head n.head) ms

-- g is the least grade up to which the box has more moves than the limit
pub record IsBoxFullGrade (i : Problem) (top : List ℕ) (limit g : ℕ) : Type 0 where
  pub more : limit < length (box_list_to i top g)
  pub first : (h : ℕ) → h < g → length (box_list_to i top h) ≤ limit

-- that grade, where there is one
unfoldable pub box_full_grade : Problem → List ℕ → ℕ → Option ℕ
box_full_grade i top limit = find (λ g. nat_lt limit (length (box_list_to i top g))) (up_to (total top))
