-- What contracts see of a lock and of a pass.
use Rattle.std.specs.Prelude.{◌≡◌, ℕ, ◌+◌, List, [], ◌∷◌, Option, Some, None}
use Rattle.atomic_table.specs.Seated.{TableId}

-- which lock it is, the value with which it was opened, whose name the lock keeps, and its number of passes
pub record LockPlace (V : Type 0) : Type 0 where
  pub lock : TableId
  pub first : V
  pub passes : ℕ

-- a pass of a lock: its pairs of a number and a count, what was shown to it, and the counts with which it holds the lock
pub record LockSight (V : Type 0) : Type 0 where
  pub lock : TableId
  pub first : Option V
  pub pairs : List (ℕ × ℕ)
  pub shown : List (List ℕ)
  pub held : Option (List ℕ)

module _ {V : Type 0} where
  -- the pass is one of this lock
  abbrev pub IsOfLock : LockPlace V → LockSight V → Type 0
  IsOfLock place pass = (pass.lock ≡ place.lock) × (pass.first ≡ Some place.first)

  -- a pass that was just opened
  abbrev pub fresh_pass : LockPlace V → ℕ → ℕ → LockSight V
  fresh_pass place number count = record { lock = place.lock; first = Some place.first; pairs = (number, count) ∷ []; shown = []; held = None }

  -- such passes, one for each of these counts, with the numbers from this one on
  abbrev pub fresh_passes : LockPlace V → ℕ → List ℕ → List (LockSight V)
  fresh_passes place from [] = []
  fresh_passes place from (c ∷ cs) = fresh_pass place from c ∷ fresh_passes place (from + 1) cs
