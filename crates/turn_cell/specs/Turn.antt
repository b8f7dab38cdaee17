-- The turn rule: what holds of a cell between any two atomic steps.
-- The word is twice the number of the value at home while the turn is free, and one more while a pass holds it.
use Rattle.std.specs.Prelude.{◌≡◌, ◌≢◌, ◌⊎◌, ℕ, ◌+◌, ◌*◌, ◌^◌, ◌<◌, ◌≤◌, [], ◌∷◌, Option, Some, None, true, false}
use mathlib.Core.Option.{some, none}
use lib.ListN.{get_elem?}
use Rattle.atomic_table.specs.Table.{State}
use Rattle.turn_cell.specs.declared.note.Note.{Note}

-- what a pass of the opening knows
abbrev pub first_note : {V : Type 0} → ℕ → V → Note V
first_note k first = record { first = Some first; seen = k; held = None; words = []; splits = 0; spent = false }

-- what is left of a pass that was joined into another
abbrev pub spent_note : {V : Type 0} → Note V
spent_note = record { first = None; seen = 0; held = None; words = []; splits = 0; spent = true }

module _ {V N : Type 0} (number_of : V → ℕ) (name_of : V → N) (first : V) where
  -- the view of a pass that has seen at most k, and holds the turn with this number or not at all
  pub record Knows (k : ℕ) (held : Option ℕ) (view : Note V) : Type 0 where
    pub opening : view.first ≡ Some first
    pub seen : view.seen ≤ k
    pub turn : view.held ≡ held

  -- the slot is at home with a value of number k that belongs to the name, and no pass holds the turn
  pub record IsFree (k : ℕ) (s : State (Option V) (Note V)) : Type 0 where
    pub word : s.words ≡ (2 * k) ∷ []
    pub value : V
    pub home : s.homes ≡ some (Some value) ∷ []
    pub number : number_of value ≡ k
    pub name : name_of value ≡ name_of first
    pub views : (seat : ℕ) (view : Note V) → get_elem? s.views seat ≡ some view → view.spent ≡ false → Knows k None view

  -- the slot is out with the holder, and no other pass holds the turn
  pub record IsTaken (k : ℕ) (s : State (Option V) (Note V)) : Type 0 where
    pub word : s.words ≡ (2 * k + 1) ∷ []
    pub home : s.homes ≡ none ∷ []
    pub holder : ℕ
    pub view : Note V
    pub there : get_elem? s.views holder ≡ some view
    pub unspent : view.spent ≡ false
    pub holds : Knows k (Some k) view
    pub others : (seat : ℕ) (view : Note V) → get_elem? s.views seat ≡ some view → view.spent ≡ false → seat ≢ holder → Knows k None view

  pub record TurnRule (s : State (Option V) (Note V)) : Type 0 where
    pub number : ℕ
    pub small : number < 2 ^ 62
    pub turn : IsFree number s ⊎ IsTaken number s
