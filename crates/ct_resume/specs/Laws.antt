-- What holds of reduced lists of moves and of reduced ledgers. Each statement is the contract of a function in the module
-- `laws`.
use Rattle.std.specs.Prelude.{ℕ, ◌≤◌, ◌<◌, ◌≡◌, ◌↔◌, Some, None, List, map, length, All, AllPairs, Contains}
use Rattle.ct_vectors.specs.Vectors.{total}
use Rattle.ct_instance.specs.Instance.{Problem, IsInstance, IsRight, grade_of}
use Rattle.ct_instance.specs.TestSet.{Binomial, IsTestList}
use Rattle.ct_instance.specs.Walk.{AreMoves}
use Rattle.ct_instance.specs.Jobs.{job_grade_of}
use Rattle.ct_instance.specs.Reach.{first_version_from}
use Rattle.ct_walk.specs.Laws.{HasOneNormalPoint}
use Rattle.ct_ledger.specs.Parts.{LedgerParts, IsLedger}
use Rattle.ct_checker.specs.Accepted.{moves_of, job_of, IsAccepted}
use Rattle.ct_checker.specs.Certified.{IsCertified}
use Rattle.ct_resume.specs.Reduced.{IsReduced, IsFirstUnreduced, first_unreduced_of}

-- ---- the test

-- no number is found exactly where the list is reduced
abbrev pub ReducedHasNone : Type 0
ReducedHasNone = (i : Problem) (ms : List Binomial) → (first_unreduced_of i ms ≡ None) ↔ IsReduced i ms

-- and a number exactly where it is the first at which the list isn't
abbrev pub FirstUnreducedIsFound : Type 0
FirstUnreducedIsFound = (i : Problem) (ms : List Binomial) (k : ℕ) → (first_unreduced_of i ms ≡ Some k) ↔ IsFirstUnreduced i ms k

-- ---- lists of moves

-- moves of at most the grade g that decide each fiber up to g are its test list exactly where they are reduced
abbrev pub DecidingIsTestList : Type 0
DecidingIsTestList =
    (i : Problem) → IsInstance i → (g : ℕ) (ms : List Binomial) → AreMoves i ms → All (λ m. grade_of i.columns m.head ≤ g) ms →
    ((b : List ℕ) → IsRight i b → total b ≤ g → HasOneNormalPoint i ms b) → IsTestList i g ms ↔ IsReduced i ms

-- ---- ledgers

-- the moves of an accepted ledger are the test list of its grade exactly where they are reduced
abbrev pub AcceptedIsTestList : Type 0
AcceptedIsTestList =
    (i : Problem) → IsInstance i → (l : LedgerParts) → IsLedger l → IsAccepted i l → IsTestList i l.grade (moves_of l) ↔ IsReduced i (moves_of l)

-- the ledger of a test list is reduced
abbrev pub CertifiedIsReduced : Type 0
CertifiedIsReduced =
    (i : Problem) → IsInstance i → (g : ℕ) (ms : List Binomial) → IsTestList i g ms → (l : LedgerParts) → IsCertified i ms g l → IsReduced i (moves_of l)

-- these are the grades of the jobs of a ledger's entries, each once, a smaller one first
pub record AreEntryGrades (i : Problem) (l : LedgerParts) (grades : List ℕ) : Type 0 where
  pub rising : AllPairs (λ (d e : ℕ). d < e) grades
  pub each : (e : ℕ) → Contains grades e ↔ Contains (map (job_grade_of i (moves_of l)) (map job_of l.entries)) e

-- where an accepted ledger is reduced, they count the versions before the first that covers its grade
abbrev pub EntriesCountVersions : Type 0
EntriesCountVersions =
    (i : Problem) → IsInstance i → (l : LedgerParts) → IsLedger l → IsAccepted i l → IsReduced i (moves_of l) →
    (grades : List ℕ) → AreEntryGrades i l grades → length grades ≡ first_version_from i l.grade
