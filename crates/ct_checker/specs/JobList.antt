-- Jobs with their grades, as far as these are at most a number.
use Rattle.std.specs.Prelude.{ℕ, nat_le, List, map, filter}
use Rattle.ct_instance.specs.declared.jobs.Job.{Job}
use Rattle.ct_instance.specs.Instance.{Problem}
use Rattle.ct_instance.specs.TestSet.{Binomial}
use Rattle.ct_jobs.specs.declared.graded.GradedJob.{GradedJob}
use Rattle.ct_jobs.specs.GradedJobs.{with_grade}

abbrev pub graded_up_to : Problem → List Binomial → ℕ → List Job → List GradedJob
graded_up_to i ms g jobs = filter (λ j. nat_le j.grade g) (map (with_grade i ms) jobs)
