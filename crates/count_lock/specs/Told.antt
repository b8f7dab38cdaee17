-- What each step on the word tells the pass that makes it, and what a pass knows afterwards.
use Rattle.std.specs.Prelude.{◌≡◌, ◌≢◌, ℕ, ◌<◌, List, [], ◌∷◌, ◌++◌, length, Option, Some, None}
use Rattle.atomic_table.specs.Table.{Me, Step}
use Rattle.atomic_table.specs.Seated.{TableId}
use Rattle.count_lock.specs.declared.note.Note.{Note}
use Rattle.count_lock.specs.Pairs.{Agree, first_number, recounted, last_pair, but_last}
use Rattle.count_lock.specs.Sight.{LockSight}

-- while a pass holds the lock its first number is one of the counts
abbrev pub Fits : Option (List ℕ) → ℕ → Type 0
Fits None number = Unit {0}
Fits (Some counts) number = number < length counts

-- a seat at the table of a lock: what its pass knows, and the slots in its hand
pub record SeatSight (V : Type 0) : Type 0 where
  pub table_id : TableId
  pub me : Me (Option V) (Note V)

module _ {V : Type 0} where
  abbrev pub sight_of : TableId → Note V → LockSight V
  sight_of lock note = record { lock = lock; first = note.first; pairs = note.pairs; shown = note.shown; held = note.held }

  -- the slot that a pass carries: none, or the empty one while it holds the lock
  abbrev pub carried_with : Option (List ℕ) → List (ℕ × Option V)
  carried_with None = []
  carried_with (Some counts) = (0, None) ∷ []

  abbrev pub wins : Note V → List ℕ → List ℕ → Note V
  wins note counts item = record note { shown = note.shown ++ item ∷ []; held = Some counts }

  abbrev pub releases : Note V → List ℕ → Note V
  releases note counts = record note { pairs = recounted counts note.pairs; held = None }

  abbrev pub keeps_most : Note V → Note V
  keeps_most note = record note { pairs = but_last note.pairs }

  abbrev pub gives_last : Note V → Note V
  gives_last note = record note { pairs = last_pair note.pairs; shown = []; held = None }

  abbrev pub takes_in : Note V → Note V → Note V
  takes_in note other = record note { pairs = note.pairs ++ other.pairs }

abbrev Seated : Type 0 → Type 0
Seated V = Me (Option V) (Note V)

-- the pass has got the lock, with the value that was at home
pub record Won {V N : Type 0} (name_of : V → N) (counts_of shows : V → List ℕ) (me me' : Seated V) : Type 0 where
  pub value : V
  pub after : me' ≡ (wins me.0 (counts_of value) (shows value), (0, Some value) ∷ me.1)
  pub agree : Agree (counts_of value) me.0.pairs
  pub fits : first_number me.0.pairs < length (counts_of value)
  pub name : (first : V) → me.0.first ≡ Some first → name_of value ≡ name_of first

-- a take: the lock where the word is 0, and nothing where it is 1
pub record Took {V N : Type 0} (name_of : V → N) (counts_of shows : V → List ℕ) (step : Step (Option V)) (me : Seated V) (word : ℕ) (me' : Seated V) : Type 0 where
  pub free : word ≡ 0 → Won name_of counts_of shows me me'
  pub busy : word ≢ 0 → me' ≡ me

-- a release: the pass's pairs have the counts of the value that it gives back
pub record Released {V : Type 0} (counts_of : V → List ℕ) (step : Step (Option V)) (me : Seated V) (word : ℕ) (me' : Seated V) : Type 0 where
  pub after : (value : V) → me.1 ≡ (0, Some value) ∷ [] → me' ≡ (releases me.0 (counts_of value), [])
