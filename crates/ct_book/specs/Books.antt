-- What a book is seen as, and what its calls do: each is a step of the completion machine, or a look.
use Rattle.std.specs.Prelude.{ℕ, ◌+◌, ◌≤◌, suc, ◌≡◌, ◌⊎◌, true, false, cond, Some, List, [], ◌∷◌, ◌++◌, map, length}
use Rattle.std.specs.List.{list_any}
use Rattle.std.specs.Arc.{arc_value}
use Rattle.ct_instance.specs.Instance.{Problem}
use Rattle.ct_instance.specs.Made.{indices}
use Rattle.ct_instance.specs.Jobs.{is_same_job}
use Rattle.ct_instance.specs.Versions.{Covers, level_of}
use Rattle.ct_instance.specs.Reach.{opened_grade}
use Rattle.ct_completion.specs.declared.journals.Act.{Act}
use Rattle.ct_completion.specs.declared.journals.Act.TheVariants.{Stored as ActStored, Published as ActPublished, MarkedFull}
use Rattle.ct_completion.specs.declared.journals.Entry.{Entry}
use Rattle.ct_completion.specs.Machine.{CompletionState, CompletionEvent, CompletionStep, CompletionRun, IsReady, hands_out, stores, already, publishes, marks_full, opened_jobs}
use Rattle.ct_completion.specs.Journal.{entries_of, acts_of}
use Rattle.ct_version.specs.declared.pins.Helped.{Helped}
use Rattle.ct_version.specs.declared.pins.FullMark.{FullMark}
use Rattle.ct_version.specs.declared.pins.Stop.{Stop}
use Rattle.ct_version.specs.declared.pins.Stop.TheVariants.{Full as Ended, Memory as OutOfMemory}
use Rattle.ct_levels.specs.Levels.{IsFirstVersion}
use Rattle.ct_version.specs.Editions.{Edition}
use Rattle.ct_version.specs.Desks.{Place, IsHelp, IsFullMark}
use Rattle.ct_book.specs.declared.outcomes.Next.{Next}
use Rattle.ct_book.specs.declared.outcomes.Next.TheVariants.{Reduce, Publish, Reached, Full}
use Rattle.ct_book.specs.declared.outcomes.Published.{Published}
use Rattle.ct_book.specs.declared.outcomes.Published.TheVariants.{New, Full as NowFull}
use Rattle.ct_book.specs.declared.outcomes.Step.{Step}
use Rattle.ct_book.specs.declared.outcomes.Step.TheVariants.{Reduce as StepReduce, Published as StepPublished, Reached as StepReached, Full as StepFull}
use Rattle.ct_book.specs.declared.outcomes.Committed.{Committed}
use Rattle.ct_book.specs.declared.outcomes.Committed.TheVariants.{Stored, Already}
use Rattle.ct_book.specs.Tasks.{TaskSeen, RemainderSeen}

-- a book: the instance, the limit on the number of moves, the number of passes, the state of its completion, and the
-- journal. Neither its version nor what jobs left stands in it: the version follows from instance and number.
pub record BookSeen : Type 0 where
  pub instance : Problem
  pub limit : ℕ
  pub passes : ℕ
  pub state : CompletionState
  pub journal : List Entry

abbrev pub edition_of : BookSeen → Edition
edition_of b = record { instance = b.instance; number = (b.state).number }

abbrev pub place_of : BookSeen → Place
place_of b = record { instance = b.instance; limit = b.limit }

-- the level of the book's version is at least g
abbrev pub IsCovered : BookSeen → ℕ → Type 0
IsCovered b g = Covers (level_of b.instance (b.state).number) g

-- a grade is open, all its jobs are resolved, and the book isn't marked full
abbrev pub IsReadyBook : BookSeen → Type 0
IsReadyBook b = (d : ℕ) × IsReady b.instance b.state d

-- what the entry of an act by a pass is in the book's journal
abbrev pub entry_by : BookSeen → ℕ → Act → Entry
entry_by b by act = record { pass = by; serial = entries_of by b.journal; act = act }

-- one step, with what the journal gets; the instance, the limit and the number of passes stay
pub record Steps (b : BookSeen) (event : CompletionEvent) (more : List Entry) (c : BookSeen) : Type 0 where
  pub step : CompletionStep b.instance b.limit b.state event c.state
  pub kept : c ≡ record b { state = c.state; journal = b.journal ++ more }

-- any number of steps
pub record Runs (b c : BookSeen) : Type 0 where
  pub events : List CompletionEvent
  pub more : List Entry
  pub run : CompletionRun b.instance b.limit b.state events c.state
  pub acts : map (λ e. e.act) more ≡ acts_of b.instance (b.state).number events
  pub kept : c ≡ record b { state = c.state; journal = b.journal ++ more }

-- ---- what is shown

-- the number of the version; 1 where the book is marked full, and else 0; and for each job of the opened grade in job
-- order 1 where it is resolved, and else 0
abbrev pub shown_by : BookSeen → List ℕ
shown_by b =
    (b.state).number ∷ cond (b.state).full 1 0 ∷
    map (λ j. cond (list_any (is_same_job j) (b.state).queue) 0 1) (opened_jobs b.instance (b.state).number)

-- the number of entries of each pass
abbrev pub counts_of : BookSeen → List ℕ
counts_of b = map (λ p. entries_of p b.journal) (indices b.passes)

-- ---- what is handed out

-- the book's version, which covers g, with the level that covers g
pub record IsReached (b : BookSeen) (g : ℕ) (h : Helped) : Type 0 where
  pub covers : IsCovered b g
  pub version : arc_value h.version ≡ edition_of b
  pub help : IsHelp (place_of b) g h

-- the book is marked full at the grade that its version opens, and that doesn't cover g
pub record IsMarked (b : BookSeen) (g : ℕ) (m : FullMark) : Type 0 where
  pub beyond : IsCovered b g → ⊥
  pub full : (b.state).full ≡ true
  pub grade : opened_grade b.instance (b.state).number ≡ Some m.grade
  pub version : arc_value m.version ≡ edition_of b
  pub mark : IsFullMark (place_of b) g m

-- the first job of the queue, against the book's version, where neither the version covers g nor the book is marked
pub record IsHandedOut (b : BookSeen) (g : ℕ) (t : TaskSeen) (c : BookSeen) : Type 0 where
  pub beyond : IsCovered b g → ⊥
  pub unmarked : (b.state).full ≡ false
  pub version : t.version ≡ edition_of b
  pub steps : Steps b (hands_out t.job) [] c

-- ---- what the calls answer

-- `next` looks, or hands out
abbrev pub IsNext : BookSeen → ℕ → BookSeen → Next → Type 0
IsNext b g c (Reduce t) = IsHandedOut b g t c
IsNext b g c Publish = (IsCovered b g → ⊥) × IsReadyBook b × (c ≡ b)
IsNext b g c (Reached h) = IsReached b g h × (c ≡ b)
IsNext b g c (Full m) = IsMarked b g m × (c ≡ b)

-- `commit` stores and writes it down, or nothing changes
abbrev pub IsCommitted : BookSeen → ℕ → RemainderSeen → BookSeen → Committed → Type 0
IsCommitted b by r c (Stored place) =
    (place ≡ length b.journal) × ((r.version).number ≡ (b.state).number) × Steps b (stores r.job) (entry_by b by (ActStored r.job) ∷ []) c
IsCommitted b by r c (Already number) = (number ≡ (b.state).number) × (c ≡ b) × Steps b (already (r.version).number r.job) [] c

-- by how much the count of the caller's pass rises
abbrev pub rise_of : Committed → ℕ
rise_of (Stored place) = 1
rise_of (Already number) = 0

-- `publish` makes the next version, or finds that its list has more moves than the limit; either is written down
abbrev pub IsPublished : BookSeen → ℕ → BookSeen → Published → Type 0
IsPublished b by c (New v) =
    (arc_value v ≡ record { instance = b.instance; number = suc (b.state).number }) × Steps b publishes (entry_by b by (ActPublished (suc (b.state).number)) ∷ []) c
IsPublished b by c (NowFull m) =
    (arc_value m.version ≡ edition_of b) × (opened_grade b.instance (b.state).number ≡ Some m.grade) × Steps b marks_full (entry_by b by (MarkedFull m.grade) ∷ []) c

-- `step` is `next`, and `publish` where it says so
abbrev pub IsStep : BookSeen → ℕ → ℕ → BookSeen → Step → Type 0
IsStep b by g c (StepReduce t) = IsHandedOut b g t c
IsStep b by g c (StepPublished v) = (IsCovered b g → ⊥) × IsReadyBook b × IsPublished b by c (New v)
IsStep b by g c (StepReached h) = IsReached b g h × (c ≡ b)
IsStep b by g c (StepFull m) = (IsMarked b g m × (c ≡ b)) ⊎ ((IsCovered b g → ⊥) × IsReadyBook b × IsPublished b by c (NowFull m) × IsFullMark (place_of b) g m)

-- the journal of b with one entry more of this pass alone, or none
abbrev pub CountsRise : ℕ → ℕ → BookSeen → BookSeen → Type 0
CountsRise by rise b c =
    (entries_of by c.journal ≡ entries_of by b.journal + rise) ×
    ((pass : ℕ) → (pass ≡ by → ⊥) → entries_of pass c.journal ≡ entries_of pass b.journal)

-- by how much the count of the caller's pass rises in a step
abbrev pub IsRiseOf : Step → ℕ → Type 0
IsRiseOf (StepReduce t) rise = rise ≡ 0
IsRiseOf (StepPublished v) rise = rise ≡ 1
IsRiseOf (StepReached h) rise = rise ≡ 0
IsRiseOf (StepFull m) rise = rise ≤ 1

-- ---- completing

-- the first version that covers g, or the mark; either after any number of steps
pub record IsCompleted (b : BookSeen) (g : ℕ) (c : BookSeen) (h : Helped) : Type 0 where
  pub runs : Runs b c
  pub help : IsHelp (place_of b) g h
  pub version : arc_value h.version ≡ edition_of c
  pub unchanged : IsCovered b g → c ≡ b
  pub first : (IsCovered b g → ⊥) → IsFirstVersion b.instance g (c.state).number

pub record IsStopped (b : BookSeen) (g : ℕ) (c : BookSeen) (m : FullMark) : Type 0 where
  pub runs : Runs b c
  pub mark : IsFullMark (place_of b) g m
  pub version : arc_value m.version ≡ edition_of c

abbrev pub IsEnded : BookSeen → ℕ → BookSeen → Stop → Type 0
IsEnded b g c (Ended m) = IsStopped b g c m
IsEnded b g c OutOfMemory = Runs b c

-- what is left to do once no job waits
abbrev pub IsSettled : BookSeen → ℕ → Next → Type 0
IsSettled b g (Reduce t) = ⊥
IsSettled b g Publish = (IsCovered b g → ⊥) × IsReadyBook b
IsSettled b g (Reached h) = IsReached b g h
IsSettled b g (Full m) = IsMarked b g m
