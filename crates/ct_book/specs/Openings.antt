-- The level and the jobs that a list of moves opens.
use Rattle.std.specs.Prelude.{ℕ, ◌≡◌, Option, Some, None, List, [], map}
use Rattle.std.specs.Option.{unwrap_or}
use Rattle.ct_instance.specs.declared.jobs.Job.{Job}
use Rattle.ct_instance.specs.Instance.{Problem}
use Rattle.ct_instance.specs.TestSet.{Binomial}
use Rattle.ct_instance.specs.Jobs.{jobs_at}
use Rattle.ct_jobs.specs.declared.graded.GradedJob.{GradedJob}
use Rattle.ct_jobs.specs.GradedJobs.{AreJobsOf}
use Rattle.ct_book.specs.Queues.{QueueSeen}
use Rattle.ct_book.specs.Insides.{fresh}

-- the jobs of the next grade, where there is one
abbrev pub jobs_by : Problem → List Binomial → Option ℕ → List Job
jobs_by i ms None = []
jobs_by i ms (Some d) = jobs_at i ms d

-- the queue has the jobs of that grade, whatever list of moves these are all jobs of
abbrev pub ListsJobs : List GradedJob → Option ℕ → QueueSeen → Type 0
ListsJobs js next q = (i : Problem) (ms : List Binomial) → AreJobsOf i ms js → q ≡ fresh (jobs_by i ms next)

-- what resolved jobs left
abbrev pub left_in : List (Option (Option (List ℕ × List ℕ))) → List (Option (List ℕ × List ℕ))
left_in stored = map (λ s. unwrap_or s None) stored
