use Rattle.std.proofs.Common.{Result, Ok, Err}
use Rattle.std.specs.Arc.{arc_value}
use Rattle.ct_checker.specs.Checking.{verdict_of}
use Rattle.ct_run.specs.declared.ending.Ending.{Ending}
use Rattle.ct_run.specs.declared.stop.Stop.{Stop}
use Rattle.ct_run.specs.Checked.{IsVerdictEnding, weighed}
use Rattle.ct_run.specs.Outcome.{checked}
use Rattle.ct_run.specs.Stopping.{EndedBy}
use Rattle.ct_run.proofs.LedgerFiles.{ends_badly}
use Rattle.ct_run.proofs.Readings.{handed_up}
use Rattle.ct_run.proofs.checking.check_ending.Goals as goal

pub returns-in_err-ledger : goal.returns-in_err-ledger
returns-in_err-ledger g c =
    let i = arc_value c.args.inst.now in
    handed_up c.in_err-ledger.field-0.0 (λ (r : Result Ending Stop). EndedBy r (checked i c.args.bytes.items)) c.from_residual.result c.from_residual.ensures.1
    (ends_badly (λ bytes. checked i bytes) (λ l status text. IsVerdictEnding i l (verdict_of i l) status text) (λ bytes status text is. is) (λ bytes status text is. is)
    c.args.bytes.items c.in_err-ledger.field-0.0 c.in_err-ledger.ensures.stopped)

pub returns : goal.returns
returns g c = weighed c.in_ok-ledger.ledger c.in_ok-ledger.ensures.read c.in_ok-verdict_ending.ensures
