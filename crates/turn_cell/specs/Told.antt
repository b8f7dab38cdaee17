-- What each step on the word tells the pass that makes it, and what a pass knows afterwards.
use Rattle.std.specs.Prelude.{◌≡◌, ℕ, ◌+◌, ◌*◌, ◌/◌, ◌^◌, ◌<◌, ◌≤◌, List, [], ◌∷◌, ◌++◌, max, Option, Some, None}
use Rattle.atomic_table.specs.Table.{Me, Step, rest}
use Rattle.atomic_table.specs.Seated.{TableId}
use Rattle.turn_cell.specs.declared.note.Note.{Note}
use Rattle.turn_cell.specs.Sight.{CellSight, IsEven, IsOdd}

-- a seat at the table of a cell: what its pass knows, and the slots in its hand
pub record SeatSight (V : Type 0) : Type 0 where
  pub table_id : TableId
  pub me : Me (Option V) (Note V)

module _ {V : Type 0} where
  abbrev pub sight_of : TableId → Note V → CellSight V
  sight_of cell note = record { cell = cell; first = note.first; seen = note.seen; held = note.held; words = note.words; splits = note.splits }

  -- the slot that a pass carries: none, or the empty one while it holds the turn
  abbrev pub carried_with : Option ℕ → List (ℕ × Option V)
  carried_with None = []
  carried_with (Some k) = (0, None) ∷ []

  abbrev pub sees : Note V → ℕ → Note V
  sees note k = record note { seen = k }

  abbrev pub finds : Note V → ℕ → Note V
  finds note word = record note { seen = word / 2; words = note.words ++ word ∷ [] }

  abbrev pub wins : Note V → ℕ → Note V
  wins note word = record note { seen = word / 2; words = note.words ++ word ∷ []; held = Some (word / 2) }

  abbrev pub releases : Note V → ℕ → Note V
  releases note k = record note { seen = k; held = None }

  abbrev pub keeps_one : Note V → Note V
  keeps_one note = record note { splits = note.splits + 1 }

  abbrev pub gives_one : Note V → Note V
  gives_one note = record note { held = None; words = []; splits = note.splits + 1 }

  abbrev pub takes_in : Note V → Note V → Note V
  takes_in note other = record note { seen = max note.seen other.seen; splits = max note.splits other.splits }

abbrev Seated : Type 0 → Type 0
Seated V = Me (Option V) (Note V)

-- a load: the pass has seen the number of the word
pub record Looked {V : Type 0} (step : Step (Option V)) (me : Seated V) (word : ℕ) (me' : Seated V) : Type 0 where
  pub after : me' ≡ (sees me.0 (word / 2), me.1)
  pub rises : me.0.seen ≤ word / 2

-- the pass has won the turn by a take that found this word, with the value that was at home
pub record Won {V N : Type 0} (number_of : V → ℕ) (name_of : V → N) (me : Seated V) (word : ℕ) (me' : Seated V) : Type 0 where
  pub value : V
  pub after : me' ≡ (wins me.0 word, (0, Some value) ∷ me.1)
  pub number : number_of value ≡ word / 2
  pub double : word ≡ 2 * (word / 2)
  pub small : word / 2 < 2 ^ 62
  pub name : (first : V) → me.0.first ≡ Some first → name_of value ≡ name_of first

-- a take: the turn with the value at home where the word is even, and only what it found where it is odd
pub record Took {V N : Type 0} (number_of : V → ℕ) (name_of : V → N) (step : Step (Option V)) (me : Seated V) (word : ℕ) (me' : Seated V) : Type 0 where
  pub busy : IsOdd word → me' ≡ (finds me.0 word, me.1)
  pub free : IsEven word → Won number_of name_of me word me'
  pub rises : me.0.seen ≤ word / 2

-- a release with the number j: the slot is given back
pub record Released {V : Type 0} (step : Step (Option V)) (me : Seated V) (word : ℕ) (me' : Seated V) : Type 0 where
  pub after : me' ≡ (releases me.0 (step.first / 2), rest me.1)
  pub rises : me.0.seen ≤ step.first / 2
