-- Several jobs at once: handed out one after the other, and what they leave taken in one after the other.
use Rattle.std.specs.Prelude.{ℕ, ◌+◌, ◌≡◌, List, [], ◌∷◌, All, map}
use Rattle.ct_version.specs.Editions.{Edition}
use Rattle.ct_book.specs.declared.outcomes.Step.{Step}
use Rattle.ct_book.specs.declared.outcomes.Step.TheVariants.{Reduce, Published, Reached, Full}
use Rattle.ct_book.specs.declared.outcomes.Committed.{Committed}
use Rattle.ct_book.specs.declared.tasks.PlacedJob.{PlacedJob}
use Rattle.ct_book.specs.Tasks.{TaskSeen, RemainderSeen, IsTask, placed}
use Rattle.ct_book.specs.Books.{BookSeen, IsHandedOut, IsStep, IsCommitted, rise_of}

-- a version, and what some jobs leave against it
pub record ReducedSeen : Type 0 where
  pub version : Edition
  pub remainders : List RemainderSeen

-- the first jobs of the queue, one after the other
abbrev pub AreHandedOut : BookSeen → ℕ → List TaskSeen → BookSeen → Type 0
AreHandedOut b g [] c = c ≡ b
AreHandedOut b g (t ∷ ts) c = (m : BookSeen) × IsHandedOut b g t m × AreHandedOut m g ts c

-- a step, and where it hands out a job, the ones that are handed out beside it, against the same version
abbrev pub IsBatchStep : BookSeen → ℕ → ℕ → List PlacedJob → BookSeen → Step → Type 0
IsBatchStep b by g ps c (Reduce t) = AreHandedOut b g (t ∷ map (placed t.version) ps) c
IsBatchStep b by g ps c (Published v) = (ps ≡ []) × IsStep b by g c (Published v)
IsBatchStep b by g ps c (Reached h) = (ps ≡ []) × IsStep b by g c (Reached h)
IsBatchStep b by g ps c (Full m) = (ps ≡ []) × IsStep b by g c (Full m)

-- with the version of the job that a step hands out, each of these is a task
abbrev pub AreTasksBeside : List PlacedJob → Step → Type 0
AreTasksBeside ps (Reduce t) = All (λ p. IsTask (placed t.version p)) ps
AreTasksBeside ps (Published v) = ps ≡ []
AreTasksBeside ps (Reached h) = ps ≡ []
AreTasksBeside ps (Full m) = ps ≡ []

-- remainders that are taken in from the last to the first, and how many of them are stored
abbrev pub AreCommitted : BookSeen → ℕ → List RemainderSeen → BookSeen → ℕ → Type 0
AreCommitted b by [] c n = (c ≡ b) × (n ≡ 0)
AreCommitted b by (r ∷ rs) c n =
    (m : BookSeen) × (before : ℕ) × AreCommitted b by rs m before ×
    ((done : Committed) × IsCommitted m by r c done × (n ≡ before + rise_of done))
