-- What a shelf tells, and what a fetch answers by it.
use Rattle.std.specs.Prelude.{◌≡◌, ℕ, ◌+◌, ◌≤◌, List, [], ◌∷◌, ◌++◌, length, take, ⊤, Result, Ok, Err}
use Rattle.ct_outside.specs.declared.fetch_fault.FetchFault.{FetchFault}
use Rattle.ct_outside.specs.declared.fetch_fault.FetchFault.TheVariants.{Failed, TooLong, Memory}
use Rattle.ct_outside.specs.Faults.{Rose}

-- what is told of a name: nothing, that it has no file, or the bytes of its file
pub data Told : Type 0 where
  untold : Told
  absent : Told
  holds : List ℕ → Told

-- as far as it is told, the name has a file, and P holds of its bytes
abbrev pub HasFile : Told → (List ℕ → Type 0) → Type 0
HasFile untold P = ⊤
HasFile absent P = ⊥
HasFile (holds bytes) P = P bytes

-- what a fetch leaves in the buffer: the whole file within the limit, one byte more of a longer one, or nothing
abbrev pub Leaves : Told → ℕ → List ℕ → Result (Unit {0}) FetchFault → Type 0
Leaves told limit got (Ok _) = (length got ≤ limit) × HasFile told (λ bytes. got ≡ bytes)
Leaves told limit got (Err TooLong) = (length got ≡ limit + 1) × HasFile told (λ bytes. got ≡ take (limit + 1) bytes)
Leaves told limit got (Err Failed) = got ≡ []
Leaves told limit got (Err Memory) = got ≡ []

-- `Failed` is answered only where the name's count of faults rose
abbrev pub HasCause : ℕ → ℕ → Result (Unit {0}) FetchFault → Type 0
HasCause before now (Ok _) = ⊤
HasCause before now (Err Failed) = Rose before now
HasCause before now (Err TooLong) = ⊤
HasCause before now (Err Memory) = ⊤

-- the names whose fetch failed, each as often as it failed, after a fetch of this name
abbrev pub failed_after : List (List ℕ) → List ℕ → Result (Unit {0}) FetchFault → List (List ℕ)
failed_after failed name (Ok _) = failed
failed_after failed name (Err Failed) = failed ++ name ∷ []
failed_after failed name (Err TooLong) = failed
failed_after failed name (Err Memory) = failed

-- a call on a shelf changes no file, lowers no count, and leaves the counts of all names that it doesn't ask for
pub record KeepsShelf (told_before told_now : List ℕ → Told) (before now : List ℕ → ℕ) (IsAsked : List ℕ → Type 0) : Type 0 where
  pub kept : told_now ≡ told_before
  pub later : (name : List ℕ) → before name ≤ now name
  pub others : (name : List ℕ) → ¬ (IsAsked name) → now name ≡ before name
