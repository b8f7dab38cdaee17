-- What holds of remainders, of completion runs and of journals. Each statement is the contract of a function in the
-- module `laws`.
use Rattle.std.specs.Prelude.{ℕ, ◌+◌, ◌≤◌, ◌≡◌, ◌↔◌, Option, Some, List, [], ◌∷◌, ◌++◌, map, length, count_by, Contains, AllPairs, suc}
use Rattle.ct_instance.specs.declared.jobs.Job.{Job}
use Rattle.ct_instance.specs.Instance.{Problem, IsInstance, grade_of}
use Rattle.ct_instance.specs.TestSet.{Binomial, IsTestList, ComesBefore, test_list}
use Rattle.ct_instance.specs.Jobs.{jobs_at}
use Rattle.ct_instance.specs.Versions.{version_list, IsVersion}
use Rattle.ct_instance.specs.Reach.{opened_grade, first_version_from}
use Rattle.ct_completion.specs.declared.journals.Entry.{Entry}
use Rattle.ct_completion.specs.Machine.{CompletionState, CompletionEvent, CompletionRun, just_opened, opened_jobs}
use Rattle.ct_completion.specs.Journal.{acts_of, is_publishing, IsReplay, AreAlike, AreSerials, entries_of}
use Rattle.ct_completion.specs.OnePass.{journal_to}
use Rattle.ct_completion.specs.Remainders.{AreRemainders, points_of, IsGroupMove}
use Rattle.ct_completion.specs.Kept.{IsMarkRight}

-- ---- remainders

-- the remainders of the jobs of a grade, against the test list of the grade before, in groups by degree: their moves
-- are exactly the moves of the grade in its test list
abbrev pub RemaindersGiveTestMoves : Type 0
RemaindersGiveTestMoves =
    (i : Problem) → IsInstance i → (g : ℕ) (ms : List Binomial) → IsTestList i g ms →
    (remainders : List (Option (List ℕ × List ℕ))) → AreRemainders i ms (jobs_at i ms (suc g)) remainders →
    (m : Binomial) → (Contains (test_list i (suc g)) m × (grade_of i.columns m.head ≡ suc g)) ↔ IsGroupMove i (points_of remainders) m

-- so do the remainders of the jobs that version k opens with the grade d
abbrev pub RemaindersGiveNewMoves : Type 0
RemaindersGiveNewMoves =
    (i : Problem) → IsInstance i → (k d : ℕ) → IsVersion i k → opened_grade i k ≡ Some d →
    (remainders : List (Option (List ℕ × List ℕ))) → AreRemainders i (version_list i k) (opened_jobs i k) remainders →
    (m : Binomial) → (Contains (test_list i d) m × (grade_of i.columns m.head ≡ d)) ↔ IsGroupMove i (points_of remainders) m

-- put in order behind the version's list, they make the list of the next version
abbrev pub NewMovesMakeNextList : Type 0
NewMovesMakeNextList =
    (i : Problem) → IsInstance i → (k : ℕ) → IsVersion i (suc k) →
    (remainders : List (Option (List ℕ × List ℕ))) → AreRemainders i (version_list i k) (opened_jobs i k) remainders →
    (new : List Binomial) → ((m : Binomial) → Contains new m ↔ IsGroupMove i (points_of remainders) m) → AllPairs (λ m n. ComesBefore i m.head n.head) new →
    version_list i k ++ new ≡ version_list i (suc k)

-- ---- runs and journals

-- over a run the number grows by the count of publishing events; from the opening, where it is 0, it is that count
abbrev pub NumberCountsPublishing : Type 0
NumberCountsPublishing =
    (i : Problem) (limit : ℕ) (s : CompletionState) (events : List CompletionEvent) (t : CompletionState) → CompletionRun i limit s events t →
    t.number ≡ s.number + count_by is_publishing events

-- the state after a run from the opening is the replay of any journal that the run is written down in
abbrev pub StateIsReplay : Type 0
StateIsReplay =
    (i : Problem) (limit : ℕ) (events : List CompletionEvent) (s : CompletionState) → CompletionRun i limit (just_opened i 0) events s →
    (journal : List Entry) → map (λ e. e.act) journal ≡ acts_of i 0 events → IsReplay i limit journal s

-- and a run from a state that is the replay of a journal makes it longer by what the run is written down as
abbrev pub JournalGrows : Type 0
JournalGrows =
    (i : Problem) (limit : ℕ) (journal : List Entry) (s : CompletionState) → IsReplay i limit journal s →
    (events : List CompletionEvent) (t : CompletionState) → CompletionRun i limit s events t →
    (more : List Entry) → map (λ e. e.act) more ≡ acts_of i s.number events → IsReplay i limit (journal ++ more) t

-- a journal has one replay at most
abbrev pub ReplayIsOne : Type 0
ReplayIsOne =
    (i : Problem) (limit : ℕ) (journal : List Entry) (s t : CompletionState) → IsReplay i limit journal s → IsReplay i limit journal t → AreAlike s t

-- what holds of each state that a journal leads to: there is such a version, its list is within the limit, the queue has
-- jobs of its opened grade, and where the state is marked full the opened grade is
pub record IsReached (i : Problem) (limit : ℕ) (s : CompletionState) : Type 0 where
  pub version : IsVersion i s.number
  pub most : length (version_list i s.number) ≤ limit
  pub queued : (j : Job) → Contains s.queue j → Contains (opened_jobs i s.number) j
  pub marked : IsMarkRight i limit s

abbrev pub ReplaysAreReached : Type 0
ReplaysAreReached = (i : Problem) → IsInstance i → (limit : ℕ) (journal : List Entry) (s : CompletionState) → IsReplay i limit journal s → IsReached i limit s

-- a serial that counts the earlier entries of its pass keeps the serials right
abbrev pub SerialsGrow : Type 0
SerialsGrow = (journal : List Entry) (entry : Entry) → AreSerials journal → entry.serial ≡ entries_of entry.pass journal → AreSerials (journal ++ entry ∷ [])

-- ---- the journal in job order

-- where the list of version k is within the limit, the journal in job order is replayed to version k, just opened
abbrev pub JournalToIsReplayed : Type 0
JournalToIsReplayed =
    (i : Problem) → IsInstance i → (limit k : ℕ) → IsVersion i k → length (version_list i k) ≤ limit → IsReplay i limit (journal_to i k) (just_opened i k)

-- up to the first version that covers g, the jobs that are opened are those of the test list of g
abbrev pub OpenedJobsAreOfWhole : Type 0
OpenedJobsAreOfWhole =
    (i : Problem) → IsInstance i → (g k d : ℕ) → k ≤ first_version_from i g → opened_grade i k ≡ Some d → opened_jobs i k ≡ jobs_at i (test_list i g) d
