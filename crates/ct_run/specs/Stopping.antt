-- How a run went up to its ending, or up to what stopped it before it had one, and what it then writes.
use Rattle.std.specs.Prelude.{ℕ, ◌≡◌, ◌⊎◌, ⊤, List, Option, Result, Ok, Err}
use Rattle.std.specs.Io.KnownBytes.{Appends}
use Rattle.ct_outside.specs.Faults.{Rose}
use Rattle.ct_outside.specs.Shelf.{Told}
use Rattle.ct_outside.specs.Sink.{AppendsFront}
use Rattle.ct_run.specs.declared.status.Status.{Status}
use Rattle.ct_run.specs.declared.status.Status.TheVariants as statuses
use Rattle.ct_run.specs.declared.stop.Stop.{Stop}
use Rattle.ct_run.specs.declared.stop.Stop.TheVariants.{Refused, ReadFault, Memory}
use Rattle.ct_run.specs.declared.ending.Ending.{Ending}
use Rattle.ct_run.specs.Outcome.{RunOutcome, IsEnding}
use Rattle.ct_run.specs.Checked.{IsBadLedger}
use Rattle.ct_run.specs.Plan.{Plan}
use Rattle.ct_run.specs.Running.{Runs}

-- the ending has the outcome's status and a text of it
abbrev pub Fits : RunOutcome → Ending → Type 0
Fits outcome ending = IsEnding outcome ending.status ending.text

-- a fault of reading comes only where the count of faults of the file rose; no file is refused before it was fetched
abbrev pub StoppedAt : Stop → ℕ → ℕ → Type 0
StoppedAt (Refused ending) before now = ⊥
StoppedAt ReadFault before now = Rose before now
StoppedAt Memory before now = ⊤

-- no ledger is read from bad bytes, and the ending says so
abbrev pub IsLedgerStop : List ℕ → Stop → Type 0
IsLedgerStop bytes (Refused ending) = IsBadLedger bytes ending.status ending.text
IsLedgerStop bytes ReadFault = ⊥
IsLedgerStop bytes Memory = ⊤

-- at an outcome: the ending fits it, or memory ran out
abbrev pub EndedBy : Result Ending Stop → RunOutcome → Type 0
EndedBy (Ok ending) outcome = Fits outcome ending
EndedBy (Err (Refused ending)) outcome = Fits outcome ending
EndedBy (Err ReadFault) outcome = ⊥
EndedBy (Err Memory) outcome = ⊤

-- at a file: it couldn't be fetched, or memory ran out
abbrev pub StoppedBy : Result Ending Stop → ℕ → ℕ → Type 0
StoppedBy (Ok ending) before now = ⊥
StoppedBy (Err stop) before now = StoppedAt stop before now

-- the plan ran up to this ending or stop
abbrev pub Ran : Plan → (List ℕ → Told) → (List ℕ → ℕ) → (List ℕ → ℕ) → Result Ending Stop → Type 0
Ran plan told before now result = Runs told before now (EndedBy result) (λ name. StoppedBy result (before name) (now name)) plan

-- the plan ran so far that `rest` is left of it: however that runs on, so the plan ran
abbrev pub LeadsTo : Plan → Plan → (List ℕ → Told) → (List ℕ → ℕ) → (List ℕ → ℕ) → Type 0
LeadsTo plan rest told before mid = (now : List ℕ → ℕ) (result : Result Ending Stop) → Ran rest told mid now result → Ran plan told before now result

-- ---- what is written

module _ {O : Type 0} (held : O → Option (List ℕ)) (faults : O → ℕ) (old new : O) (status : Status) where
  -- the whole text was written, or writing failed and a front of it was
  abbrev pub IsWritten : Ending → Type 0
  IsWritten ending =
      ((status ≡ ending.status) × Appends (held old) (held new) ending.text) ⊎
      ((status ≡ statuses.WriteFault) × AppendsFront (held old) (held new) ending.text × Rose (faults old) (faults new))

  -- the text of an ending was written, and without one nothing was
  abbrev pub IsFinished : Result Ending Stop → Type 0
  IsFinished (Ok ending) = IsWritten ending
  IsFinished (Err (Refused ending)) = IsWritten ending
  IsFinished (Err ReadFault) = (status ≡ statuses.ReadFault) × (new ≡ old)
  IsFinished (Err Memory) = (status ≡ statuses.Memory) × (new ≡ old)
