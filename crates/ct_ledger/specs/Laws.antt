-- Laws of ledger texts.
use Rattle.std.specs.Prelude.{◌≡◌, ℕ, List, [], ◌++◌}
use Rattle.ct_ledger.specs.Parts.{LedgerParts, IsLedger}
use Rattle.ct_ledger.specs.LedgerText.{ledger_text, IsLedgerText}

-- two ledgers with one text are equal
abbrev pub OneLedgerOfAText : Type 0
OneLedgerOfAText = (k l : LedgerParts) → IsLedger k → IsLedger l → ledger_text k ≡ ledger_text l → k ≡ l

-- what goes on after a ledger text is no ledger text
abbrev pub NoLedgerTextIsAPrefix : Type 0
NoLedgerTextIsAPrefix = (text rest : List ℕ) → IsLedgerText text → IsLedgerText (text ++ rest) → rest ≡ []
