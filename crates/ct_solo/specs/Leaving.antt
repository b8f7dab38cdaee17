-- The points that jobs leave.
use Rattle.std.specs.Prelude.{ℕ, ◌≤◌, ◌≡◌, Option, List}
use Rattle.ct_vectors.specs.declared.limits.TheConstants.{GRADE_LIMIT}
use Rattle.ct_instance.specs.declared.jobs.Job.{Job}
use Rattle.ct_instance.specs.Instance.{Problem}
use Rattle.ct_instance.specs.TestSet.{Binomial}
use Rattle.ct_instance.specs.Jobs.{IsJob, job_grade_of}
use Rattle.ct_completion.specs.Remainders.{AreRemainders, points_of}

-- these are the points of the remainders of these jobs
pub record LeavesPoints (i : Problem) (ms : List Binomial) (jobs : List Job) (points : List (List ℕ)) : Type 0 where
  pub remainders : List (Option (List ℕ × List ℕ))
  pub are : AreRemainders i ms jobs remainders
  pub same : points ≡ points_of remainders

-- a job whose grade is within that of a walk
pub record IsSmallJob (i : Problem) (ms : List Binomial) (j : Job) : Type 0 where
  pub job : IsJob i ms j
  pub grade : job_grade_of i ms j ≤ GRADE_LIMIT
