-- What a bench gives: answers of a book of its place.
use Rattle.std.specs.Prelude.{ℕ, ◌<◌, ◌≡◌, List}
use Rattle.std.specs.Arc.{arc_value}
use Rattle.ct_instance.specs.Instance.{Problem}
use Rattle.ct_version.specs.Desks.{Place, IsOfPlace, IsHelp, IsFullMark}
use Rattle.ct_book.specs.declared.outcomes.Step.{Step}
use Rattle.ct_book.specs.declared.tasks.PlacedJob.{PlacedJob}
use Rattle.ct_book.specs.declared.outcomes.Step.TheVariants.{Reduce, Published, Reached, Full}
use Rattle.ct_book.specs.declared.outcomes.Committed.{Committed}
use Rattle.ct_book.specs.Tasks.{RemainderSeen}
use Rattle.ct_book.specs.Books.{BookSeen, IsStep, IsCommitted}
use Rattle.ct_book.specs.Batches.{IsBatchStep, AreTasksBeside, AreCommitted}

-- an instance, a limit on the number of moves, and a number of passes
pub record BenchPlace : Type 0 where
  pub instance : Problem
  pub limit : ℕ
  pub passes : ℕ

-- the same without the passes
abbrev pub desk_place : BenchPlace → Place
desk_place p = record { instance = p.instance; limit = p.limit }

-- a book of the place
pub record IsBookOf (p : BenchPlace) (b : BookSeen) : Type 0 where
  pub instance : b.instance ≡ p.instance
  pub limit : b.limit ≡ p.limit
  pub passes : b.passes ≡ p.passes

-- what is handed on is of the place: a task of the instance, a version within the limit, help up to the grade, or the mark
abbrev pub IsGiven : BenchPlace → ℕ → Step → Type 0
IsGiven p g (Reduce t) = t.version.instance ≡ p.instance
IsGiven p g (Published v) = IsOfPlace (desk_place p) (arc_value v)
IsGiven p g (Reached h) = IsHelp (desk_place p) g h
IsGiven p g (Full m) = IsFullMark (desk_place p) g m

-- an answer that some book of the place gives, by some pass
pub record IsBenchStep (p : BenchPlace) (g : ℕ) (s : Step) : Type 0 where
  pub book : BookSeen
  pub after : BookSeen
  pub by : ℕ
  pub own : by < p.passes
  pub place : IsBookOf p book
  pub step : IsStep book by g after s
  pub given : IsGiven p g s

pub record IsBenchCommit (p : BenchPlace) (r : RemainderSeen) (done : Committed) : Type 0 where
  pub book : BookSeen
  pub after : BookSeen
  pub by : ℕ
  pub own : by < p.passes
  pub place : IsBookOf p book
  pub commit : IsCommitted book by r after done

-- the same of several jobs: these are handed out beside that of the answer
pub record IsBenchBatchStep (p : BenchPlace) (g : ℕ) (ps : List PlacedJob) (s : Step) : Type 0 where
  pub book : BookSeen
  pub after : BookSeen
  pub by : ℕ
  pub own : by < p.passes
  pub place : IsBookOf p book
  pub step : IsBatchStep book by g ps after s
  pub given : IsGiven p g s
  pub tasks : AreTasksBeside ps s

-- so many of these remainders are stored by some book of the place
pub record IsBenchCommitAll (p : BenchPlace) (rs : List RemainderSeen) (rise : ℕ) : Type 0 where
  pub book : BookSeen
  pub after : BookSeen
  pub by : ℕ
  pub own : by < p.passes
  pub place : IsBookOf p book
  pub committed : AreCommitted book by rs after rise
