-- A job that is handed out, and what it leaves.
use Rattle.std.specs.Prelude.{ℕ, ◌≤◌, ◌≡◌, Option, Some, List, slice_get}
use Rattle.ct_vectors.specs.declared.limits.TheConstants.{GRADE_LIMIT}
use Rattle.ct_instance.specs.declared.jobs.Job.{Job}
use Rattle.ct_instance.specs.Jobs.{IsJob, job_grade_of}
use Rattle.ct_instance.specs.Versions.{version_list, IsRemainder}
use Rattle.ct_completion.specs.Machine.{opened_jobs}
use Rattle.ct_version.specs.Editions.{Edition, IsEdition}
use Rattle.ct_book.specs.declared.tasks.PlacedJob.{PlacedJob}
use Rattle.ct_book.specs.declared.remainders.Left.{Left}
use Rattle.ct_book.specs.Queues.{points_seen}

-- the version whose opened grade has the job, the place of the job among the jobs of that grade, and the job
pub record TaskSeen : Type 0 where
  pub version : Edition
  pub place : ℕ
  pub job : Job

abbrev pub placed : Edition → PlacedJob → TaskSeen
placed v p = record { version = v; place = p.place; job = p.job }

-- the job is of the opened grade, and its grade is within that of a walk
pub record IsTask (t : TaskSeen) : Type 0 where
  pub edition : IsEdition t.version
  pub at : slice_get (opened_jobs t.version.instance t.version.number) t.place ≡ Some t.job
  pub job : IsJob t.version.instance (version_list t.version.instance t.version.number) t.job
  pub grade : job_grade_of t.version.instance (version_list t.version.instance t.version.number) t.job ≤ GRADE_LIMIT

-- the same with what the job leaves
pub record RemainderSeen : Type 0 where
  pub version : Edition
  pub place : ℕ
  pub job : Job
  pub points : Option (List ℕ × List ℕ)

abbrev pub task_of : RemainderSeen → TaskSeen
task_of r = record { version = r.version; place = r.place; job = r.job }

abbrev pub left_at : Edition → Left → RemainderSeen
left_at v l = record { version = v; place = l.place; job = l.job; points = points_seen l.points }

-- it is the remainder of its job against its version
pub record IsHeld (r : RemainderSeen) : Type 0 where
  pub task : IsTask (task_of r)
  pub remainder : IsRemainder r.version.instance (version_list r.version.instance r.version.number) r.job r.points
