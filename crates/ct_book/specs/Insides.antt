-- What a book keeps, over plain data.
use Rattle.std.specs.Prelude.{ℕ, ◌≤◌, ◌≡◌, Bool, Option, Some, None, List, length, map, replicate, get_or, slice_get}
use Rattle.ct_vectors.specs.declared.limits.TheConstants.{GRADE_LIMIT, MOVE_LIMIT}
use Rattle.ct_instance.specs.declared.jobs.Job.{Job}
use Rattle.ct_instance.specs.Made.{indices}
use Rattle.ct_instance.specs.Jobs.{job_grade_of}
use Rattle.ct_instance.specs.Versions.{version_list, IsRemainder}
use Rattle.ct_instance.specs.Reach.{last_opened}
use Rattle.ct_jobs.specs.declared.graded.GradedJob.{GradedJob}
use Rattle.ct_jobs.specs.GradedJobs.{AreJobsOf}
use Rattle.ct_completion.specs.Machine.{CompletionState, opened_jobs}
use Rattle.ct_completion.specs.Journal.{IsReplay}
use Rattle.ct_completion.specs.Kept.{AreLevels, HasRoom}
use Rattle.ct_version.specs.declared.finished.Finished.{Finished}
use Rattle.ct_version.specs.Editions.{Edition, IsEdition, level_seen}
use Rattle.ct_book.specs.Logs.{LogSeen}
use Rattle.ct_book.specs.Queues.{QueueSeen, waiting_jobs}
use Rattle.ct_book.specs.Books.{BookSeen}

-- the version, the limit on the number of moves, the mark, the levels of all versions so far, the jobs of the version's
-- list, those of the opened grade with what they left, and the journal
pub record Insides : Type 0 where
  pub version : Edition
  pub limit : ℕ
  pub full : Bool
  pub levels : List Finished
  pub jobs : List GradedJob
  pub queue : QueueSeen
  pub log : LogSeen

abbrev pub state_in : Insides → CompletionState
state_in x = record { number = (x.version).number; queue = waiting_jobs x.queue; full = x.full }

abbrev pub book_in : Insides → BookSeen
book_in x = record { instance = (x.version).instance; limit = x.limit; passes = (x.log).passes; state = state_in x; journal = (x.log).entries }

-- what is stored are the remainders of the jobs, whose grade is within that of a walk
abbrev pub AreHeld : Edition → QueueSeen → Type 0
AreHeld v q =
    (p : ℕ) (j : Job) (r : Option (List ℕ × List ℕ)) → slice_get q.jobs p ≡ Some j → get_or q.stored p None ≡ Some r →
    IsRemainder v.instance (version_list v.instance v.number) j r × (job_grade_of v.instance (version_list v.instance v.number) j ≤ GRADE_LIMIT)

pub record IsBook (x : Insides) : Type 0 where
  pub edition : IsEdition x.version
  pub opened : last_opened (x.version).instance (x.version).number ≤ GRADE_LIMIT
  pub limit : x.limit ≤ MOVE_LIMIT
  pub levels : AreLevels (x.version).instance (x.version).number (map level_seen x.levels)
  pub buckets : AreJobsOf (x.version).instance (version_list (x.version).instance (x.version).number) x.jobs
  pub jobs : (x.queue).jobs ≡ opened_jobs (x.version).instance (x.version).number
  pub held : AreHeld x.version x.queue
  pub replay : IsReplay (x.version).instance x.limit (x.log).entries (state_in x)
  pub room : HasRoom (x.version).instance (state_in x) (length (x.log).entries) (x.log).room

-- a queue of jobs that all wait
abbrev pub fresh : List Job → QueueSeen
fresh js = record { jobs = js; stored = replicate (length js) None; order = indices (length js) }
