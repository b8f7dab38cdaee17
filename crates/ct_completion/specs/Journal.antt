-- The journal of a completion, and its replay. An entry has a pass, a serial and an act.
use Rattle.std.specs.Prelude.{ℕ, ◌≡◌, ◌<◌, nat_eq, Bool, true, false, Option, Some, None, List, [], ◌∷◌, ◌++◌, length, take, get_or, count_by, IsPermutation, suc}
use Rattle.std.specs.Option.{option_map, option_to_list}
use Rattle.ct_instance.specs.Instance.{Problem}
use Rattle.ct_instance.specs.Reach.{opened_grade}
use Rattle.ct_completion.specs.declared.journals.Act.{Act}
use Rattle.ct_completion.specs.declared.journals.Act.TheVariants.{Stored, Published, MarkedFull}
use Rattle.ct_completion.specs.declared.journals.Entry.{Entry}
use Rattle.ct_completion.specs.Machine.{CompletionState, CompletionEvent, hands_out, stores, already, publishes, marks_full, refuses, CompletionStep, just_opened}

-- what an event at version k is written down as: a stored job, the new version's number, the opened grade; else nothing
abbrev pub act_of : Problem → ℕ → CompletionEvent → Option Act
act_of i k (stores j) = Some (Stored j)
act_of i k publishes = Some (Published (suc k))
act_of i k marks_full = option_map MarkedFull (opened_grade i k)
act_of i k (hands_out j) = None
act_of i k (already n j) = None
act_of i k refuses = None

-- the number of the version after an event at version k
abbrev pub number_after : ℕ → CompletionEvent → ℕ
number_after k publishes = suc k
number_after k (hands_out j) = k
number_after k (stores j) = k
number_after k (already n j) = k
number_after k marks_full = k
number_after k refuses = k

-- what a list of events from version k on is written down as
abbrev pub acts_of : Problem → ℕ → List CompletionEvent → List Act
acts_of i k [] = []
acts_of i k (event ∷ events) = option_to_list (act_of i k event) ++ acts_of i (number_after k event) events

-- whether the event publishes
abbrev pub is_publishing : CompletionEvent → Bool
is_publishing publishes = true
is_publishing (hands_out j) = false
is_publishing (stores j) = false
is_publishing (already n j) = false
is_publishing marks_full = false
is_publishing refuses = false

-- the replay of a journal from the opening on: each entry's act is a step that is allowed, with the right number or grade
pub data Replays (i : Problem) (limit : ℕ) : List Entry → CompletionState → Type 0 where
  opens : Replays i limit [] (just_opened i 0)
  acts : (entries : List Entry) (s : CompletionState) (event : CompletionEvent) (entry : Entry) (t : CompletionState) →
      Replays i limit entries s → act_of i s.number event ≡ Some entry.act → CompletionStep i limit s event t → Replays i limit (entries ++ entry ∷ []) t

-- the same state, apart from the order of the queue
pub record AreAlike (s t : CompletionState) : Type 0 where
  pub number : s.number ≡ t.number
  pub queue : IsPermutation s.queue t.queue
  pub full : s.full ≡ t.full

-- the state s is the replay of the journal, apart from the order of its queue
pub record IsReplay (i : Problem) (limit : ℕ) (journal : List Entry) (s : CompletionState) : Type 0 where
  pub replayed : CompletionState
  pub replays : Replays i limit journal replayed
  pub alike : AreAlike s replayed

-- the number of entries of a pass
abbrev pub entries_of : ℕ → List Entry → ℕ
entries_of pass journal = count_by (λ e. nat_eq e.pass pass) journal

-- each serial is the number of earlier entries of the same pass
abbrev pub AreSerials : List Entry → Type 0
AreSerials journal =
    (k : ℕ) (entry : Entry) → k < length journal → (get_or journal k entry).serial ≡ entries_of (get_or journal k entry).pass (take k journal)
