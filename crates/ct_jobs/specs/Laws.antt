-- What lists of graded jobs tell of the list of all jobs. Each statement is the contract of a function in the module `laws`.
use Rattle.std.specs.Prelude.{ℕ, ◌+◌, ◌≡◌, List, ◌++◌, map, length, IsPermutation}
use Rattle.ct_instance.specs.declared.jobs.Job.{Job}
use Rattle.ct_instance.specs.Instance.{Problem}
use Rattle.ct_instance.specs.TestSet.{Binomial}
use Rattle.ct_instance.specs.Jobs.{job_grade_of, all_jobs, jobs_at}
use Rattle.ct_instance.specs.Versions.{least_above}
use Rattle.ct_jobs.specs.declared.graded.GradedJob.{GradedJob}
use Rattle.ct_jobs.specs.GradedJobs.{AreJobsOf, graded_pairs_from, next_grade, of_grade, IsInJobOrder}

-- where moves are added at the end, the pairs with a new move are what is added to the jobs
abbrev pub JobsGrow : Type 0
JobsGrow =
    (i : Problem) (ms ns : List Binomial) (js : List GradedJob) → AreJobsOf i ms js → AreJobsOf i (ms ++ ns) (js ++ graded_pairs_from i (ms ++ ns) (length ms + 1))

-- the next grade is that of the list of all jobs
abbrev pub NextGradeIsOfAll : Type 0
NextGradeIsOfAll =
    (i : Problem) (ms : List Binomial) (js : List GradedJob) (d : ℕ) → AreJobsOf i ms js → next_grade d js ≡ least_above d (map (job_grade_of i ms) (all_jobs i ms))

-- the jobs of one grade, once they are in job order, are the list of the jobs of that grade
abbrev pub OneGradeIsListed : Type 0
OneGradeIsListed =
    (i : Problem) (ms : List Binomial) (g : ℕ) (all : List GradedJob) (js : List Job) → AreJobsOf i ms all → IsPermutation (of_grade g all) js → IsInJobOrder js → js ≡ jobs_at i ms g
