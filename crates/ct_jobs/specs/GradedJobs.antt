-- Jobs with their grades: all of them for a list of moves, those of one grade, and the next grade.
use Rattle.std.specs.Prelude.{ℕ, Bool, false, nat_eq, nat_le, Option, Some, None, min, max, ◌-◌, List, [], ◌∷◌, map, filter, AllPairs, IsPermutation}
use Rattle.ct_instance.specs.declared.jobs.Job.{Job}
use Rattle.ct_instance.specs.declared.jobs.Job.TheVariants.{Generator, Pair}
use Rattle.ct_instance.specs.Instance.{Problem}
use Rattle.ct_instance.specs.TestSet.{Binomial}
use Rattle.ct_instance.specs.Jobs.{job_grade_of, all_jobs, numbers_after, JobComesBefore}
use Rattle.ct_instance.specs.Versions.{least_above}
use Rattle.ct_jobs.specs.declared.graded.GradedJob.{GradedJob}

abbrev pub with_grade : Problem → List Binomial → Job → GradedJob
with_grade i ms j = record { grade = job_grade_of i ms j; job = j }

-- all jobs of a list of moves, in job order
abbrev pub graded_jobs : Problem → List Binomial → List GradedJob
graded_jobs i ms = map (with_grade i ms) (all_jobs i ms)

-- a pair whose greater number is at least `from`
abbrev pub is_pair_from : ℕ → Job → Bool
is_pair_from from (Generator j) = false
is_pair_from from (Pair a b) = nat_le from b

-- all such pairs of a list of moves, in job order
abbrev pub graded_pairs_from : Problem → List Binomial → ℕ → List GradedJob
graded_pairs_from i ms from = map (with_grade i ms) (filter (is_pair_from from) (all_jobs i ms))

-- the pairs of the move a with greater numbers, from `from` to n
abbrev pub row_from : ℕ → ℕ → ℕ → List Job
row_from from a n = map (Pair a) (numbers_after (max a (from - 1)) n)

-- these are all jobs of the list of moves, each once, in any order
abbrev pub AreJobsOf : Problem → List Binomial → List GradedJob → Type 0
AreJobsOf i ms js = IsPermutation (graded_jobs i ms) js

-- the jobs of one grade
abbrev pub of_grade : ℕ → List GradedJob → List Job
of_grade g js = map (λ j. j.job) (filter (λ j. nat_eq j.grade g) js)

-- the least grade above d
abbrev pub next_grade : ℕ → List GradedJob → Option ℕ
next_grade d js = least_above d (map (λ j. j.grade) js)

-- the lesser of two grades, as far as there are any
abbrev pub lesser_of : Option ℕ → Option ℕ → Option ℕ
lesser_of None b = b
lesser_of (Some x) None = Some x
lesser_of (Some x) (Some y) = Some (min x y)

-- no job comes before one that stands earlier
abbrev pub IsInJobOrder : List Job → Type 0
IsInJobOrder js = AllPairs (λ j k. JobComesBefore k j → ⊥) js

-- what buckets are seen as: the jobs that they hold, in any order, and how many additions they have room for
pub record Store : Type 0 where
  pub jobs : List GradedJob
  pub spare : ℕ

-- room for one addition, where none is parked
abbrev pub room_beside : {X : Type 0} → List X → ℕ
room_beside [] = 1
room_beside (x ∷ xs) = 0
