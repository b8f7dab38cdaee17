-- What is kept of the jobs of a list: up to the greatest grade each grade, with those of its jobs that aren't coprime pairs,
-- and above it the least grade.
use Rattle.std.specs.Prelude.{ℕ, ◌≤◌, ◌<◌, ◌≡◌, ◌⊎◌, Bool, cond, Option, None, Some, List, [], ◌∷◌, ◌++◌, Contains, unwrap_or}
use Rattle.std.specs.Option.{option_map}
use Rattle.std.specs.Ordering.{nat_cmp}
use Rattle.std.specs.BTreeMap.{get}
use Rattle.ct_instance.specs.declared.jobs.Job.{Job}
use Rattle.ct_instance.specs.TestSet.{Binomial}
use Rattle.ct_instance.specs.Jobs.{IsCoprime}
use Rattle.ct_jobs.specs.declared.graded.GradedJob.{GradedJob}
use Rattle.ct_solo.specs.declared.agenda.Agenda.{Agenda}

abbrev pub graded : ℕ → Job → GradedJob
graded g j = record { grade = g; job = j }

-- the jobs that are kept of a grade, where it is kept
abbrev pub look : Agenda → ℕ → Option (List Job)
look a g = option_map (λ v. v.items) (get nat_cmp a.grades g)

abbrev pub jobs_of : Agenda → ℕ → List Job
jobs_of a g = unwrap_or (look a g) []

-- a grade that is kept is that of a job, past the opened one and at most the greatest; and what is kept of it are such jobs
pub record IsEntry (js : List GradedJob) (a : Agenda) (g : ℕ) (kept : List Job) : Type 0 where
  pub above : a.opened < g
  pub within : g ≤ a.top
  pub some : (e : GradedJob) × Contains js e × (e.grade ≡ g)
  pub jobs : (j : Job) → Contains kept j → Contains js (record { grade = g; job = j })

-- this is the agenda of these jobs of a list of moves
pub record IsAgenda (ms : List Binomial) (js : List GradedJob) (a : Agenda) : Type 0 where
  pub entries : (g : ℕ) (kept : List Job) → look a g ≡ Some kept → IsEntry js a g kept
  pub whole : (e : GradedJob) → Contains js e → a.opened < e.grade → e.grade ≤ a.top →
      (kept : List Job) × (look a e.grade ≡ Some kept) × (IsCoprime ms e.job ⊎ Contains kept e.job)
  pub beyond : (g : ℕ) → a.beyond ≡ Some g → (a.top < g) × ((e : GradedJob) × Contains js e × (e.grade ≡ g))
  pub past : (e : GradedJob) → Contains js e → a.top < e.grade → (g : ℕ) × (a.beyond ≡ Some g) × (g ≤ e.grade)

-- the job, unless it is left out
abbrev pub unless : Bool → Job → List Job
unless out j = cond out [] (j ∷ [])

-- b is a with this grade, and with the job unless it is left out
pub record IsPut (a : Agenda) (g : ℕ) (j : Job) (out : Bool) (b : Agenda) : Type 0 where
  pub here : look b g ≡ Some (jobs_of a g ++ unless out j)
  pub others : (h : ℕ) → (h ≡ g → ⊥) → look b h ≡ look a h

-- the number is the grade, or the one so far, and at most both
abbrev pub IsLesserOf : Option ℕ → ℕ → ℕ → Type 0
IsLesserOf None g n = n ≡ g
IsLesserOf (Some l) g n = (n ≤ l) × ((n ≡ l) ⊎ (n ≡ g))
