-- What contracts see of a cell and of a pass.
use Rattle.std.specs.Prelude.{◌≡◌, ℕ, ◌/◌, ◌%◌, List, [], ◌∷◌, ◌++◌, length, drop, Option, Some}
use Rattle.atomic_table.specs.Seated.{TableId}

-- which cell it is, and the value with which it was opened, whose name the cell keeps
pub record CellPlace (V : Type 0) : Type 0 where
  pub cell : TableId
  pub first : V

-- a pass of a cell: the number that it has seen, the number with which it holds the turn, the words that its takes found, and how often it was split
pub record CellSight (V : Type 0) : Type 0 where
  pub cell : TableId
  pub first : Option V
  pub seen : ℕ
  pub held : Option ℕ
  pub words : List ℕ
  pub splits : ℕ

-- the pass is one of this cell
abbrev pub IsOfCell : {V : Type 0} → CellPlace V → CellSight V → Type 0
IsOfCell place pass = (pass.cell ≡ place.cell) × (pass.first ≡ Some place.first)

abbrev pub IsEven : ℕ → Type 0
IsEven w = w % 2 ≡ 0

abbrev pub IsOdd : ℕ → Type 0
IsOdd w = w % 2 ≡ 1

-- a pass after one take that found this word, where it does not keep the turn
abbrev pub after_take : {V : Type 0} → CellSight V → ℕ → CellSight V
after_take pass word = record pass { seen = word / 2; words = pass.words ++ word ∷ [] }
