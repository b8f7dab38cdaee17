-- The completion machine: what a completion may do. A state has no moves and no remainders: which list version k has
-- is said by its number alone.
use Rattle.std.specs.Prelude.{ℕ, ◌≤◌, ◌<◌, ◌≡◌, ◌⊎◌, Bool, true, false, Option, Some, None, List, [], ◌∷◌, ◌++◌, length, Contains, suc}
use Rattle.ct_instance.specs.declared.jobs.Job.{Job}
use Rattle.ct_instance.specs.Instance.{Problem}
use Rattle.ct_instance.specs.TestSet.{test_list}
use Rattle.ct_instance.specs.Jobs.{jobs_at}
use Rattle.ct_instance.specs.Versions.{version_list}
use Rattle.ct_instance.specs.Reach.{opened_grade}

-- the jobs of the opened grade, in job order; none where no grade is open
unfoldable pub opened_jobs : Problem → ℕ → List Job
opened_jobs i k = jobs_of (opened_grade i k)
  where
    jobs_of : Option ℕ → List Job
    jobs_of (Some d) = jobs_at i (version_list i k) d
    jobs_of None = []

-- a version's number, the unresolved jobs of its opened grade, and whether the next list would pass the limit
pub record CompletionState : Type 0 where
  pub number : ℕ
  pub queue : List Job
  pub full : Bool

-- version k, with its grade just opened
abbrev pub just_opened : Problem → ℕ → CompletionState
just_opened i k = record { number = k; queue = opened_jobs i k; full = false }

-- a job of the opened grade is resolved that isn't in the queue
pub record IsResolved (i : Problem) (s : CompletionState) (j : Job) : Type 0 where
  pub job : Contains (opened_jobs i s.number) j
  pub done : Contains s.queue j → ⊥

-- the grade d is open, all its jobs are resolved, and the state isn't marked full
pub record IsReady (i : Problem) (s : CompletionState) (d : ℕ) : Type 0 where
  pub opened : opened_grade i s.number ≡ Some d
  pub resolved : s.queue ≡ []
  pub unmarked : s.full ≡ false

-- what may happen: a job is handed out, or its remainder stored; a remainder comes against the version with this number
-- and is already there; the next version is published, or the state is marked full; a call is refused
pub data CompletionEvent : Type 0 where
  hands_out : (job : Job) → CompletionEvent
  stores : (job : Job) → CompletionEvent
  already : (number : ℕ) (job : Job) → CompletionEvent
  publishes : CompletionEvent
  marks_full : CompletionEvent
  refuses : CompletionEvent

-- where each may happen with a limit of moves, and what it leaves
abbrev pub CompletionStep : Problem → ℕ → CompletionState → CompletionEvent → CompletionState → Type 0
CompletionStep i limit s (hands_out j) t =
    (rest : List Job) × (s.queue ≡ j ∷ rest) × (t ≡ record { number = s.number; queue = rest ++ j ∷ []; full = s.full })
CompletionStep i limit s (stores j) t =
    (before : List Job) × (after : List Job) × (s.queue ≡ before ++ j ∷ after) × (t ≡ record { number = s.number; queue = before ++ after; full = s.full })
CompletionStep i limit s (already k j) t = ((k ≡ s.number → ⊥) ⊎ IsResolved i s j) × (t ≡ s)
CompletionStep i limit s publishes t =
    (d : ℕ) × IsReady i s d × (length (test_list i d) ≤ limit) × (t ≡ just_opened i (suc s.number))
CompletionStep i limit s marks_full t =
    (d : ℕ) × IsReady i s d × (limit < length (test_list i d)) × (t ≡ record { number = s.number; queue = []; full = true })
CompletionStep i limit s refuses t = t ≡ s

-- a list of events, from s to t
pub data CompletionRun (i : Problem) (limit : ℕ) (s : CompletionState) : List CompletionEvent → CompletionState → Type 0 where
  starts : CompletionRun i limit s [] s
  goes_on : (events : List CompletionEvent) (t : CompletionState) (event : CompletionEvent) (u : CompletionState) →
      CompletionRun i limit s events t → CompletionStep i limit t event u → CompletionRun i limit s (events ++ event ∷ []) u
