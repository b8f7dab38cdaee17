use Rattle.std.proofs.Common.{subst}
use Rattle.ct_instance.specs.Instance.{Problem}
use Rattle.ct_checker.specs.Checking.{verdict_of}
use Rattle.ct_form.specs.EqualityForms.{equal_of}
use Rattle.ct_run.specs.Checked.{IsVerdictEnding}
use Rattle.ct_run.specs.Outcome.{checked}
use Rattle.ct_run.specs.Stopping.{EndedBy}
use Rattle.ct_run.proofs.LedgerFiles.{ran_to_ledger}
use Rattle.ct_run.proofs.plain.ledger_ending.Goals as goal

pub returns-clause-ran : goal.returns-clause-ran
returns-clause-ran g c =
    let i = equal_of c.args.form.now in
    ran_to_ledger (λ bytes. checked i bytes) (λ l status text. IsVerdictEnding i l (verdict_of i l) status text) (λ bytes status text is. is) (λ bytes status text is. is)
    (g.S.Shelf.told c.args.shelf.now) (g.S.Shelf.faults c.args.shelf.now) (g.S.Shelf.faults c.file_at.new.shelf) c.args.ledger.now c.in_ok-bytes.bytes.items c.check_ending.result
    c.in_ok-bytes.ensures.read c.in_ok-bytes.ensures.shelf.others
    (subst (λ (p : Problem). EndedBy c.check_ending.result (checked p c.in_ok-bytes.bytes.items)) c.equal.ensures c.check_ending.ensures)
