-- What is written of a grade.
use Rattle.std.specs.Prelude.{ℕ, ◌≡◌, List}
use Rattle.ct_instance.specs.Instance.{Problem}
use Rattle.ct_instance.specs.TestSet.{test_list}
use Rattle.ct_ledger.specs.Parts.{LedgerParts, IsLedger}
use Rattle.ct_ledger.specs.LedgerText.{ledger_text}
use Rattle.ct_checker.specs.Accepted.{IsAccepted}
use Rattle.ct_checker.specs.Certified.{IsCertified}

-- the text of the ledger of the test list of g: its moves are that list, its entries are the walks of the ends of all
-- their jobs, and it is accepted
pub record IsCertificate (i : Problem) (g : ℕ) (text : List ℕ) : Type 0 where
  pub ledger : LedgerParts
  pub within : IsLedger ledger
  pub certified : IsCertified i (test_list i g) g ledger
  pub accepted : IsAccepted i ledger
  pub written : text ≡ ledger_text ledger
