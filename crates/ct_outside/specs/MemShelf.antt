-- A shelf in memory: what it tells, and what its next fetch answers.
use Rattle.std.specs.Prelude.{ℕ, List, [], ◌∷◌, ◌++◌, Bool, if◌then◌else◌, ◌==◌, nat_le, length, Option, Some, None, Result, Ok, Err}
use Rattle.std.specs.List.{list_any}
use Rattle.std.specs.Str.{bytes_eq}
use Rattle.ct_outside.specs.declared.fetch_fault.FetchFault.{FetchFault}
use Rattle.ct_outside.specs.declared.fetch_fault.FetchFault.TheVariants.{Failed, TooLong, Memory}
use Rattle.ct_outside.specs.Faults.{one_more}
use Rattle.ct_outside.specs.Shelf.{Told, absent, holds}

-- the files by name, the names whose fetch failed, the number of fetches, and the numbers of those that are to fail
pub record ShelfState : Type 0 where
  pub files : List (List ℕ × List ℕ)
  pub failed : List (List ℕ)
  pub fetches : ℕ
  pub failing : List ℕ

-- no file, and no fetch yet
abbrev pub empty_shelf : ShelfState
empty_shelf = record { files = []; failed = []; fetches = 0; failing = [] }

-- what files by name tell of a name
abbrev pub told_of : List (List ℕ × List ℕ) → List ℕ → Told
told_of [] name = absent
told_of (entry ∷ files) name = if bytes_eq name entry.0 then holds entry.1 else told_of files name

-- whether the next fetch is one that is to fail
abbrev pub is_due : ShelfState → Bool
is_due shelf = list_any (λ call. call == one_more shelf.fetches) shelf.failing

-- the fault of a fetch by what is told of the name, or none
abbrev pub fault_by : Told → ℕ → Option FetchFault
fault_by (holds bytes) limit = if nat_le (length bytes) limit then None else Some TooLong
fault_by _ limit = Some Failed

-- the fault of the next fetch, or none
abbrev pub next_fault : ShelfState → List ℕ → ℕ → Option FetchFault
next_fault shelf name limit = if is_due shelf then Some Failed else fault_by (told_of shelf.files name) limit

-- the shelf after a fetch: one that ran out of memory leaves it as it was
abbrev pub after_fetch : ShelfState → List ℕ → Result (Unit {0}) FetchFault → ShelfState
after_fetch shelf name (Ok _) = record shelf { fetches = one_more shelf.fetches }
after_fetch shelf name (Err TooLong) = record shelf { fetches = one_more shelf.fetches }
after_fetch shelf name (Err Failed) = record shelf { fetches = one_more shelf.fetches; failed = shelf.failed ++ name ∷ [] }
after_fetch shelf name (Err Memory) = shelf
