-- Turns of passes at one book, and what they are answered: a table over what the book is seen as.
use Rattle.std.specs.Prelude.{ℕ, ◌<◌, ◌≡◌, ◌⊎◌, suc, true, false, nat_eq, if◌then◌else◌, Option, Some, None, List, [], ◌∷◌, ◌++◌, length, Contains, All}
use Rattle.ct_instance.specs.declared.jobs.Job.{Job}
use Rattle.ct_instance.specs.Instance.{Problem}
use Rattle.ct_instance.specs.Reach.{opened_grade}
use Rattle.ct_completion.specs.declared.journals.Act.TheVariants.{Stored as ActStored, Published as ActPublished, MarkedFull}
use Rattle.ct_completion.specs.Machine.{hands_out, stores, publishes, marks_full}
use Rattle.ct_version.specs.Editions.{Edition}
use Rattle.ct_book.specs.Tasks.{RemainderSeen}
use Rattle.ct_book.specs.Books.{BookSeen, edition_of, IsCovered, Steps, entry_by}
use Rattle.ct_workers.specs.declared.turns.Turn.{Turn}
use Rattle.ct_workers.specs.declared.turns.Turn.TheVariants.{Take, Commit, Lose}
use Rattle.ct_workers.specs.declared.turns.Turned.{Turned}
use Rattle.ct_workers.specs.declared.turns.Turned.TheVariants.{Took, Published, Reached, Full, Stored, Already, Lost, Nothing}

-- what a pass keeps of a job: the version with which it was taken, and the job
pub record Pending : Type 0 where
  pub by : ℕ
  pub version : Edition
  pub job : Job

abbrev pub kept_by : ℕ → RemainderSeen → Pending
kept_by by r = record { by = by; version = r.version; job = r.job }

-- the oldest that the pass keeps
abbrev pub first_of : ℕ → List Pending → Option Pending
first_of by [] = None
first_of by (k ∷ ks) = if nat_eq k.by by then Some k else first_of by ks

-- all but that one
abbrev pub without_first : ℕ → List Pending → List Pending
without_first by [] = []
without_first by (k ∷ ks) = if nat_eq k.by by then ks else k ∷ without_first by ks

-- the book, and what the passes keep in the order in which it came
pub record Driven : Type 0 where
  pub book : BookSeen
  pub kept : List Pending

-- what is kept is of this instance
abbrev pub AreOf : Problem → List Pending → Type 0
AreOf i kept = All (λ k. k.version.instance ≡ i) kept

-- a pass of the book has the turn
abbrev pub IsTurnOf : ℕ → Turn → Type 0
IsTurnOf passes (Take by) = by < passes
IsTurnOf passes (Commit by) = by < passes
IsTurnOf passes (Lose by) = by < passes

-- ---- the table, up to the grade g

-- a covered target comes first, a mark next, and then what the machine allows
abbrev pub IsTake : ℕ → ℕ → Driven → Turned → Driven → Type 0
IsTake g by d Reached e = IsCovered d.book g × (e ≡ d)
IsTake g by d (Full f) e =
    (IsCovered d.book g → ⊥) × (opened_grade (d.book).instance ((d.book).state).number ≡ Some f) × (e.kept ≡ d.kept) ×
    (((((d.book).state).full ≡ true) × (e.book ≡ d.book)) ⊎
    ((((d.book).state).full ≡ false) × Steps d.book marks_full (entry_by d.book by (MarkedFull f) ∷ []) e.book))
IsTake g by d (Published n) e =
    (IsCovered d.book g → ⊥) × (n ≡ suc ((d.book).state).number) × (e.kept ≡ d.kept) ×
    Steps d.book publishes (entry_by d.book by (ActPublished n) ∷ []) e.book
IsTake g by d (Took j) e =
    (IsCovered d.book g → ⊥) × (((d.book).state).full ≡ false) ×
    (e.kept ≡ d.kept ++ record { by = by; version = edition_of d.book; job = j } ∷ []) × Steps d.book (hands_out j) [] e.book
IsTake g by d (Stored place) e = ⊥
IsTake g by d (Already n) e = ⊥
IsTake g by d Lost e = ⊥
IsTake g by d Nothing e = ⊥

-- what was kept is stored and written down, or the book stays
abbrev pub IsGiven : ℕ → BookSeen → Pending → Turned → BookSeen → Type 0
IsGiven by b k (Stored place) c =
    (place ≡ length b.journal) × (k.version ≡ edition_of b) × Steps b (stores k.job) (entry_by b by (ActStored k.job) ∷ []) c
IsGiven by b k (Already n) c =
    (n ≡ (b.state).number) × ((k.version).number ≡ (b.state).number → Contains (b.state).queue k.job → ⊥) × (c ≡ b)
IsGiven by b k (Took j) c = ⊥
IsGiven by b k (Published n) c = ⊥
IsGiven by b k Reached c = ⊥
IsGiven by b k (Full f) c = ⊥
IsGiven by b k Lost c = ⊥
IsGiven by b k Nothing c = ⊥

-- the oldest that the pass keeps goes to the book
abbrev pub IsCommit : ℕ → Driven → Option Pending → Turned → Driven → Type 0
IsCommit by d None t e = (t ≡ Nothing) × (e ≡ d)
IsCommit by d (Some k) t e = (e.kept ≡ without_first by d.kept) × IsGiven by d.book k t e.book

-- or nowhere
abbrev pub IsLoss : ℕ → Driven → Option Pending → Turned → Driven → Type 0
IsLoss by d None t e = (t ≡ Nothing) × (e ≡ d)
IsLoss by d (Some k) t e = (t ≡ Lost) × (e.kept ≡ without_first by d.kept) × (e.book ≡ d.book)

abbrev pub IsTurn : ℕ → Turn → Driven → Turned → Driven → Type 0
IsTurn g (Take by) d t e = IsTake g by d t e
IsTurn g (Commit by) d t e = IsCommit by d (first_of by d.kept) t e
IsTurn g (Lose by) d t e = IsLoss by d (first_of by d.kept) t e

-- turns one after the other, with an answer each
abbrev pub AreTurns : ℕ → Driven → List Turn → List Turned → Driven → Type 0
AreTurns g d [] [] e = e ≡ d
AreTurns g d [] (t ∷ answers) e = ⊥
AreTurns g d (turn ∷ turns) [] e = ⊥
AreTurns g d (turn ∷ turns) (t ∷ answers) e = (m : Driven) × IsTurn g turn d t m × AreTurns g m turns answers e

-- from a book at which the passes keep nothing
abbrev pub IsDriven : ℕ → BookSeen → List Turn → List Turned → BookSeen → Type 0
IsDriven g b turns answers c = (kept : List Pending) × AreTurns g (record { book = b; kept = [] }) turns answers (record { book = c; kept = kept })
