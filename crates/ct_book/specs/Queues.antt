-- The jobs of the opened grade: which are resolved, and in which order the others wait.
use Rattle.std.specs.Prelude.{ℕ, ◌≡◌, ◌↔◌, Bool, true, false, not, nat_eq, Option, Some, None, List, length, map, filter, get_or, Contains, AllPairs}
use Rattle.std.specs.declared.alloc.Global.{Global}
use Rattle.std.specs.declared.boxed.Box.{Box}
use Rattle.ct_instance.specs.declared.jobs.Job.{Job}
use Rattle.ct_instance.specs.declared.jobs.Job.TheVariants.{Generator}
use Rattle.ct_book.specs.declared.ends.Ends.{Ends}
use Rattle.ct_book.specs.declared.queue.Slot.{Slot}
use Rattle.ct_book.specs.declared.queue.Slot.TheVariants.{Waiting, Nothing, Differ}

-- what a slot tells: nothing where the job waits, and else what the job left
abbrev pub slot_seen : Slot → Option (Option (List ℕ × List ℕ))
slot_seen Waiting = None
slot_seen Nothing = Some None
slot_seen (Differ ends) = Some (Some (ends.value.first, ends.value.second))

-- the jobs, what each left, and the places of those that wait, the next one first
pub record QueueSeen : Type 0 where
  pub jobs : List Job
  pub stored : List (Option (Option (List ℕ × List ℕ)))
  pub order : List ℕ

abbrev pub waits : Option (Option (List ℕ × List ℕ)) → Bool
waits None = true
waits (Some r) = false

-- whether the job at this place waits
abbrev pub waits_at : List (Option (Option (List ℕ × List ℕ))) → ℕ → Bool
waits_at stored p = waits (get_or stored p (Some None))

-- there is a slot a job, and each job that waits stands once in the order
pub record IsQueue (q : QueueSeen) : Type 0 where
  pub slots : length q.stored ≡ length q.jobs
  pub waiting : (p : ℕ) → Contains q.order p ↔ (waits_at q.stored p ≡ true)
  pub once : AllPairs (λ p r. p ≡ r → ⊥) q.order

-- the jobs that wait, the next one first
abbrev pub waiting_jobs : QueueSeen → List Job
waiting_jobs q = map (λ p. get_or q.jobs p (Generator 0)) q.order

-- the places without this one
abbrev pub without : ℕ → List ℕ → List ℕ
without place order = filter (λ p. not (nat_eq p place)) order

-- the points that a job left, if it left any
abbrev pub points_seen : Option (Box Ends Global) → Option (List ℕ × List ℕ)
points_seen None = None
points_seen (Some ends) = Some (ends.value.first, ends.value.second)
