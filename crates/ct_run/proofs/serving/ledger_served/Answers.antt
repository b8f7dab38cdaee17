use Rattle.ct_run.specs.Resumption.{IsResumption}
use Rattle.ct_run.specs.Outcome.{resumed}
use Rattle.ct_run.specs.Plan.{case_of}
use Rattle.ct_run.proofs.LedgerFiles.{ran_to_ledger}
use Rattle.ct_run.proofs.serving.ledger_served.Goals as goal

pub returns-clause-ran : goal.returns-clause-ran
returns-clause-ran g c =
    let case = case_of c.args.service.now.options c.args.form.now in
    ran_to_ledger (λ bytes. resumed case c.args.script bytes) (λ l status text. IsResumption case c.args.script l status text) (λ bytes status text is. is) (λ bytes status text is. is)
    (g.S.Shelf.told c.args.shelf.now) (g.S.Shelf.faults c.args.shelf.now) (g.S.Shelf.faults c.file_at.new.shelf) c.args.ledger.now c.in_ok-bytes.bytes.items c.resumed_ending.result
    c.in_ok-bytes.ensures.read c.in_ok-bytes.ensures.shelf.others c.resumed_ending.ensures
