use Rattle.std.proofs.Common.{ℕ, List, Err, sym, subst, ◌∙◌, arith}
use Rattle.ct_lines.specs.declared.stop.TextStop.{TextStop}
use Rattle.ct_lines.specs.FaultLine.{IsFaultLine}
use Rattle.ct_lines.specs.Stops.{AtFault}
use Rattle.ct_ledger.specs.Parts.{LedgerParts}
use Rattle.ct_ledger.specs.LedgerText.{IsLedgerText}
use Rattle.ct_run.specs.Checked.{faulty}
use Rattle.ct_run.proofs.checking.ledger_in.Goals as goal

pub returns-in-Ok-clause-read : goal.returns-in-Ok-clause-read
returns-in-Ok-clause-read c =
    record {
      few = omega (arith, c.if-len-gt-LEDGER_FILE_LIMIT.false, c.len.ensures);
      ledger = c.in-Ok.ensures.ok.0;
      text = sym c.deref.ensures.value ∙ c.in-Ok.ensures.ok.1;
    }

pub returns-in-Err-Fault-clause-stopped : goal.returns-in-Err-Fault-clause-stopped
returns-in-Err-Fault-clause-stopped c =
    let line = c.in-Err-Fault.line in
    let fault = subst (λ (s : TextStop). AtFault {X = LedgerParts} (IsFaultLine IsLedgerText c.deref.result.now) (Err s)) c.in-Err-Fault.field-0-is c.in-Err-Fault.ensures.fault in
    faulty line (omega (arith, c.if-len-gt-LEDGER_FILE_LIMIT.false, c.len.ensures))
    (subst (λ (bytes : List ℕ). IsFaultLine IsLedgerText bytes line) c.deref.ensures.value fault)
    c.in_ok-bad_ledger_ending-in-Err-Fault.ensures.status c.in_ok-bad_ledger_ending-in-Err-Fault.ensures.text
