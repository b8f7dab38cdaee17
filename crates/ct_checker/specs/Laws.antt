-- What an accepted ledger shows. Each statement is the contract of a function in the module `laws`.
use Rattle.std.specs.Prelude.{ℕ, ◌≤◌, ◌≡◌, ◌↔◌, None, List}
use Rattle.ct_vectors.specs.Vectors.{total}
use Rattle.ct_instance.specs.Instance.{Problem, IsInstance, IsRight, start_of}
use Rattle.ct_instance.specs.Answer.{outcome_of, answer_of}
use Rattle.ct_instance.specs.TestSet.{Binomial, IsTestList}
use Rattle.ct_instance.specs.Walk.{IsNormal}
use Rattle.ct_walk.specs.Laws.{HasOneNormalPoint}
use Rattle.ct_walk.specs.Moves.{Follows}
use Rattle.ct_ledger.specs.Parts.{LedgerParts, IsLedger}
use Rattle.ct_checker.specs.Accepted.{moves_of, IsAccepted}
use Rattle.ct_checker.specs.Refusals.{first_refusal_of}
use Rattle.ct_checker.specs.Certified.{IsCertified}

-- the moves of an accepted ledger decide each fiber up to its grade: exactly one point is divided by no head, and it is
-- the least
abbrev pub AcceptedDecides : Type 0
AcceptedDecides =
    (i : Problem) → IsInstance i → (l : LedgerParts) → IsLedger l → IsAccepted i l →
    (b : List ℕ) → IsRight i b → total b ≤ l.grade → HasOneNormalPoint i (moves_of l) b

-- so steps from (0, b) that end where no head divides show the answer
abbrev pub StepsShowAnswer : Type 0
StepsShowAnswer =
    (i : Problem) → IsInstance i → (l : LedgerParts) → IsLedger l → IsAccepted i l →
    (b : List ℕ) → IsRight i b → total b ≤ l.grade →
    (steps : List (ℕ × ℕ)) (p : List ℕ) → Follows (moves_of l) (start_of i b) steps p → IsNormal (moves_of l) p → answer_of i b ≡ outcome_of i p

-- a ledger is accepted exactly where no line is refused
abbrev pub AcceptedHasNoRefusal : Type 0
AcceptedHasNoRefusal = (i : Problem) (l : LedgerParts) → (first_refusal_of i l ≡ None) ↔ IsAccepted i l

-- the ledger of a test list up to its grade is accepted
abbrev pub CertifiedIsAccepted : Type 0
CertifiedIsAccepted =
    (i : Problem) → IsInstance i → (g : ℕ) (ms : List Binomial) → IsTestList i g ms → (l : LedgerParts) → IsCertified i ms g l → IsAccepted i l
