-- What is promised of `check`, `certify` and `make`. Each statement is the contract of a function in the module `laws`.
use Rattle.std.specs.Prelude.{ℕ, ◌≡◌, ◌≤◌, List}
use Rattle.ct_vectors.specs.Vectors.{total}
use Rattle.ct_instance.specs.Instance.{Problem, IsInstance, IsRight}
use Rattle.ct_walk.specs.Laws.{HasOneNormalPoint}
use Rattle.ct_ledger.specs.Parts.{LedgerParts}
use Rattle.ct_ledger.specs.LedgerText.{ledger_text}
use Rattle.ct_checker.specs.Accepted.{moves_of}
use Rattle.ct_run.specs.declared.status.Status.TheVariants.{Done}
use Rattle.ct_run.specs.Checked.{IsChecked}
use Rattle.ct_run.specs.Certificate.{IsCertificate}
use Rattle.ct_run.specs.Summarised.{IsSummaryOf}

-- the bytes are a ledger whose moves divide all points but one of each fiber up to its grade, and that one is the least
pub record DecidesFibers (i : Problem) (bytes : List ℕ) : Type 0 where
  pub ledger : LedgerParts
  pub text : bytes ≡ ledger_text ledger
  pub decides : (b : List ℕ) → IsRight i b → total b ≤ ledger.grade → HasOneNormalPoint i (moves_of ledger) b

-- so it is of a ledger file on which `check` ends as Done
abbrev pub CheckedDecides : Type 0
CheckedDecides = (i : Problem) → IsInstance i → (bytes text : List ℕ) → IsChecked i bytes Done text → DecidesFibers i bytes

-- what `certify` writes of an instance and a grade is one text
abbrev pub OneCertificate : Type 0
OneCertificate = (i : Problem) (g : ℕ) (text other : List ℕ) → IsCertificate i g text → IsCertificate i g other → text ≡ other

-- what `make` writes of a number is one text
abbrev pub OneSummary : Type 0
OneSummary = (number : ℕ) (text other : List ℕ) → IsSummaryOf number text → IsSummaryOf number other → text ≡ other
