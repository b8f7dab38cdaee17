-- How a plan runs by what is told of its files, and by their counts of faults before and now.
use Rattle.std.specs.Prelude.{◌≡◌, ℕ, ◌⊎◌, ⊤, List, [], ◌∷◌}
use Rattle.ct_outside.specs.Faults.{Rose}
use Rattle.ct_outside.specs.Shelf.{Told, untold, absent, holds}
use Rattle.ct_run.specs.Outcome.{RunOutcome}
use Rattle.ct_run.specs.Plan.{Plan, ends, asks}

-- ---- files

-- the name has a file, and P holds of its bytes, or of some bytes where it isn't told
abbrev pub HasBytes : Told → (List ℕ → Type 0) → Type 0
HasBytes untold P = (bytes : List ℕ) × P bytes
HasBytes absent P = ⊥
HasBytes (holds bytes) P = P bytes

-- P holds of the bytes of a file that is told
abbrev pub IfBytes : Told → (List ℕ → Type 0) → Type 0
IfBytes untold P = ⊤
IfBytes absent P = ⊤
IfBytes (holds bytes) P = P bytes

-- a name is one of these
abbrev pub IsAmong : List ℕ → List (List ℕ) → Type 0
IsAmong name [] = ⊥
IsAmong name (first ∷ others) = (name ≡ first) ⊎ IsAmong name others

-- ---- plans

-- the plan comes to an outcome, of which P holds
abbrev pub Ends : Plan → (List ℕ → Told) → (RunOutcome → Type 0) → Type 0
Ends (ends outcome) told P = P outcome
Ends (asks name go) told P = HasBytes (told name) (λ bytes. Ends (go bytes) told P)

-- where all files on its way are told and there, P holds of the outcome
abbrev pub WouldEnd : Plan → (List ℕ → Told) → (RunOutcome → Type 0) → Type 0
WouldEnd (ends outcome) told P = P outcome
WouldEnd (asks name go) told P = IfBytes (told name) (λ bytes. WouldEnd (go bytes) told P)

-- the plan asks for this name, after files that are there
abbrev pub ComesTo : Plan → (List ℕ → Told) → List ℕ → Type 0
ComesTo (ends outcome) told name = ⊥
ComesTo (asks asked go) told name = (name ≡ asked) ⊎ HasBytes (told asked) (λ bytes. ComesTo (go bytes) told name)

-- The files were asked for in the plan's order, and no other: up to one at which it stopped, of which Stopped holds, or
-- up to the outcome, of which Ended holds. `seen` are the names before.
module _ (told : List ℕ → Told) (before now : List ℕ → ℕ) (Ended : RunOutcome → Type 0) (Stopped : List ℕ → Type 0) where
  abbrev pub RunsAfter : List (List ℕ) → Plan → Type 0
  RunsAfter seen (ends outcome) = ((name : List ℕ) → ¬ (IsAmong name seen) → now name ≡ before name) × Ended outcome
  RunsAfter seen (asks asked go) =
      (((name : List ℕ) → ¬ (IsAmong name (asked ∷ seen)) → now name ≡ before name) × Stopped asked) ⊎
      HasBytes (told asked) (λ bytes. RunsAfter (asked ∷ seen) (go bytes))

  abbrev pub Runs : Plan → Type 0
  Runs plan = RunsAfter [] plan

-- a file couldn't be read, and its count rose
abbrev pub HasReadFault : Plan → (List ℕ → Told) → (List ℕ → ℕ) → (List ℕ → ℕ) → Type 0
HasReadFault plan told before now = Runs told before now (λ outcome. ⊥) (λ name. Rose (before name) (now name)) plan

-- the count rose of no name that the plan comes to
abbrev pub NoReadFault : Plan → (List ℕ → Told) → (List ℕ → ℕ) → (List ℕ → ℕ) → Type 0
NoReadFault plan told before now = (name : List ℕ) → ComesTo plan told name → ¬ (Rose (before name) (now name))
