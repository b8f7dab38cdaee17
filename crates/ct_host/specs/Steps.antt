-- What a pass does to the book behind the lock, and what it has seen afterwards.
use Rattle.std.specs.Prelude.{ℕ, ◌≤◌, ◌<◌, ◌≡◌, List, [], ◌∷◌, ◌++◌}
use Rattle.std.specs.Arc.{arc_value}
use Rattle.count_lock.specs.Pairs.{first_number, first_count}
use Rattle.count_lock.specs.Sight.{LockSight}
use Rattle.ct_version.specs.declared.pins.Helped.{Helped}
use Rattle.ct_version.specs.declared.pins.Stop.{Stop}
use Rattle.ct_version.specs.declared.pins.Stop.TheVariants.{Full as Ended, Memory}
use Rattle.ct_vectors.specs.Words.{Extends}
use Rattle.ct_book.specs.declared.outcomes.Step.{Step}
use Rattle.ct_book.specs.declared.tasks.PlacedJob.{PlacedJob}
use Rattle.ct_book.specs.declared.outcomes.Step.TheVariants.{Reduce, Published, Reached, Full}
use Rattle.ct_book.specs.declared.outcomes.Committed.{Committed}
use Rattle.ct_book.specs.Tasks.{RemainderSeen}
use Rattle.ct_book.specs.Books.{BookSeen, IsStep, IsCommitted, shown_by}
use Rattle.ct_book.specs.Batches.{IsBatchStep, AreTasksBeside, AreCommitted}
use Rattle.ct_book.specs.Benches.{BenchPlace, IsBookOf, IsGiven}
use Rattle.ct_host.specs.Hosts.{PassSeen, last_shown}

-- an answer that a book of the place gives, which showed this item, to the pass with this number
pub record IsHostStep (p : BenchPlace) (by : ℕ) (item : List ℕ) (g : ℕ) (s : Step) : Type 0 where
  pub book : BookSeen
  pub after : BookSeen
  pub own : by < p.passes
  pub place : IsBookOf p book
  pub shown : shown_by book ≡ item
  pub step : IsStep book by g after s
  pub given : IsGiven p g s

pub record IsHostCommit (p : BenchPlace) (by : ℕ) (item : List ℕ) (r : RemainderSeen) (done : Committed) : Type 0 where
  pub book : BookSeen
  pub after : BookSeen
  pub own : by < p.passes
  pub place : IsBookOf p book
  pub shown : shown_by book ≡ item
  pub commit : IsCommitted book by r after done

-- the same of several jobs: these are handed out beside that of the answer
pub record IsHostBatchStep (p : BenchPlace) (by : ℕ) (item : List ℕ) (g : ℕ) (ps : List PlacedJob) (s : Step) : Type 0 where
  pub book : BookSeen
  pub after : BookSeen
  pub own : by < p.passes
  pub place : IsBookOf p book
  pub shown : shown_by book ≡ item
  pub step : IsBatchStep book by g ps after s
  pub given : IsGiven p g s
  pub tasks : AreTasksBeside ps s

-- so many of these remainders are stored
pub record IsHostCommitAll (p : BenchPlace) (by : ℕ) (item : List ℕ) (rs : List RemainderSeen) (rise : ℕ) : Type 0 where
  pub book : BookSeen
  pub after : BookSeen
  pub own : by < p.passes
  pub place : IsBookOf p book
  pub shown : shown_by book ≡ item
  pub committed : AreCommitted book by rs after rise

-- a step's answer has a version
abbrev pub HasVersion : Step → Type 0
HasVersion (Reduce t) = ⊥
HasVersion (Published v) = Unit {0}
HasVersion (Reached h) = Unit {0}
HasVersion (Full m) = Unit {0}

-- the version of a step's answer, where it has one, isn't above this number
abbrev pub HasSeenStep : ℕ → Step → Type 0
HasSeenStep seen (Reduce t) = Unit {0}
HasSeenStep seen (Published v) = (arc_value v).number ≤ seen
HasSeenStep seen (Reached h) = (arc_value h.version).number ≤ seen
HasSeenStep seen (Full m) = (arc_value m.version).number ≤ seen

-- the same of the answer of help
abbrev pub HasSeenHelp : ℕ → Helped → Type 0
HasSeenHelp seen h = (arc_value h.version).number ≤ seen

abbrev pub HasSeenStop : ℕ → Stop → Type 0
HasSeenStop seen (Ended m) = (arc_value m.version).number ≤ seen
HasSeenStop seen Memory = Unit {0}

-- a pass that had the lock once, and freed it
abbrev pub OneLock : LockSight BookSeen → LockSight BookSeen → Type 0
OneLock old new =
    new ≡ record old { pairs = (first_number old.pairs, first_count new.pairs) ∷ []; shown = old.shown ++ last_shown new.shown ∷ [] }

-- a pass after some steps and commits: neither what it counts nor what it has seen has fallen
pub record Helps (old new : PassSeen) : Type 0 where
  pub kept : new ≡ record old { steps = new.steps; seen = new.seen; words = new.words; shown = new.shown }
  pub words : Extends old.words new.words
  pub seen : old.seen ≤ new.seen
  pub steps : old.steps ≤ new.steps
