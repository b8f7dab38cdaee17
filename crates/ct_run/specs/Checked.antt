-- How the check of a ledger file ends.
use Rattle.std.specs.Prelude.{ℕ, ◌≡◌, ◌<◌, ◌≤◌, ◌++◌, List, length, codes, decimal}
use Rattle.ct_input.specs.declared.limits.TheConstants.{LEDGER_FILE_LIMIT}
use Rattle.ct_instance.specs.Instance.{Problem}
use Rattle.ct_lines.specs.FaultLine.{IsFaultLine}
use Rattle.ct_ledger.specs.Parts.{LedgerParts, IsLedger}
use Rattle.ct_ledger.specs.LedgerText.{ledger_text, IsLedgerText}
use Rattle.ct_checker.specs.declared.verdicts.Reason.{Reason}
use Rattle.ct_checker.specs.declared.verdicts.Reason.TheVariants.{Size, Grade, Degree, Order, Entry, Coprime, Step, End}
use Rattle.ct_checker.specs.declared.verdicts.Verdict.{Verdict}
use Rattle.ct_checker.specs.declared.verdicts.Verdict.TheVariants.{Accepted, Refused}
use Rattle.ct_checker.specs.Accepted.{IsAccepted}
use Rattle.ct_checker.specs.Checking.{verdict_of}
use Rattle.ct_run.specs.declared.status.Status.{Status}
use Rattle.ct_run.specs.declared.status.Status.TheVariants.{Done, BadLedger, LedgerRefused}
use Rattle.ct_run.specs.Texts.{newline}

abbrev pub reason_text : Reason → List ℕ
reason_text Size = codes "size"
reason_text Grade = codes "grade"
reason_text Degree = codes "degree"
reason_text Order = codes "order"
reason_text Entry = codes "entry"
reason_text Coprime = codes "coprime"
reason_text Step = codes "step"
reason_text End = codes "end"

-- as 'accepted grade 15 moves 5'
abbrev pub accepted_text : ℕ → ℕ → List ℕ
accepted_text grade moves = codes "accepted grade " ++ decimal grade ++ codes " moves " ++ decimal moves ++ newline

-- as 'refused: line 13 entry'
abbrev pub refused_text : ℕ → Reason → List ℕ
refused_text line reason = codes "refused: line " ++ decimal line ++ codes " " ++ reason_text reason ++ newline

abbrev pub too_long_text : List ℕ
too_long_text = codes "bad ledger: too long" ++ newline

-- as 'bad ledger: line 17'
abbrev pub bad_line_text : ℕ → List ℕ
bad_line_text line = codes "bad ledger: line " ++ decimal line ++ newline

-- by the verdict: accepted exactly where the definition of an accepted ledger holds
abbrev pub IsVerdictEnding : Problem → LedgerParts → Verdict → Status → List ℕ → Type 0
IsVerdictEnding i l (Accepted grade moves) status text = IsAccepted i l × ((status ≡ Done) × (text ≡ accepted_text grade moves))
IsVerdictEnding i l (Refused line reason) status text = (IsAccepted i l → ⊥) × ((status ≡ LedgerRefused) × (text ≡ refused_text line reason))

-- the file is over its limit; or it is the text of no ledger, and this line is at fault
pub data IsBadLedger (bytes : List ℕ) (status : Status) (text : List ℕ) : Type 0 where
  over : LEDGER_FILE_LIMIT < length bytes → status ≡ BadLedger → text ≡ too_long_text → IsBadLedger bytes status text
  faulty : (line : ℕ) → length bytes ≤ LEDGER_FILE_LIMIT → IsFaultLine IsLedgerText bytes line → status ≡ BadLedger → text ≡ bad_line_text line → IsBadLedger bytes status text

-- the file is within its limit, and the text of this ledger
pub record IsLedgerFile (bytes : List ℕ) (l : LedgerParts) : Type 0 where
  pub few : length bytes ≤ LEDGER_FILE_LIMIT
  pub ledger : IsLedger l
  pub text : bytes ≡ ledger_text l

-- the file is bad, or that of a ledger, and this is how its ledger ends
pub data IsLedgerEnding (bytes : List ℕ) (status : Status) (text : List ℕ) (Weighed : LedgerParts → Type 0) : Type 0 where
  bad : IsBadLedger bytes status text → IsLedgerEnding bytes status text Weighed
  weighed : (l : LedgerParts) → IsLedgerFile bytes l → Weighed l → IsLedgerEnding bytes status text Weighed

-- the check of a file, by the verdict on its ledger
abbrev pub IsChecked : Problem → List ℕ → Status → List ℕ → Type 0
IsChecked i bytes status text = IsLedgerEnding bytes status text (λ l. IsVerdictEnding i l (verdict_of i l) status text)
