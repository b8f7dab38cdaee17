use Rattle.std.proofs.Common.{Result, Ok, Err, ◌∙◌}
use Rattle.std.specs.Arc.{arc_value}
use Rattle.ct_run.specs.declared.ending.Ending.{Ending}
use Rattle.ct_run.specs.declared.stop.Stop.{Stop}
use Rattle.ct_run.specs.Checked.{weighed}
use Rattle.ct_run.specs.Resumption.{IsResumption}
use Rattle.ct_run.specs.Outcome.{resumed}
use Rattle.ct_run.specs.Plan.{case_of}
use Rattle.ct_run.specs.Stopping.{EndedBy}
use Rattle.ct_run.proofs.LedgerFiles.{ends_badly}
use Rattle.ct_run.proofs.Readings.{handed_up}
use Rattle.ct_run.proofs.Resumptions.{resumed_within, resumption_opens, resumption_refused, resumption_unreduced}
use Rattle.ct_run.proofs.resuming.resumed_ending.Goals as goal

pub returns-in_err-ledger : goal.returns-in_err-ledger
returns-in_err-ledger g c =
    let case = case_of c.args.service.now.options c.args.form.now in
    handed_up c.in_err-ledger.field-0.0 (λ (r : Result Ending Stop). EndedBy r (resumed case c.args.script c.args.bytes.items)) c.from_residual.result c.from_residual.ensures.1
    (ends_badly (λ bytes. resumed case c.args.script bytes) (λ l status text. IsResumption case c.args.script l status text) (λ bytes status text is. is) (λ bytes status text is. is)
    c.args.bytes.items c.in_err-ledger.field-0.0 c.in_err-ledger.ensures.stopped)

pub opened_ending-requires-clause-grade : goal.opened_ending-requires-clause-grade
opened_ending-requires-clause-grade g c κs within =
    resumed_within (arc_value c.in_ok-equal.equal) c.in_ok-ledger.ledger c.args.service.now.options.limit c.in-Ok.moves c.in_ok-ledger.ensures.read.ledger c.in-Ok.ensures.resumed

pub returns-in-Ok : goal.returns-in-Ok
returns-in-Ok g c =
    let ending = c.in_ok-opened_ending-in-Ok.field-0 in
    weighed c.in_ok-ledger.ledger c.in_ok-ledger.ensures.read
    (resumption_opens (case_of c.args.service.now.options c.args.form.now) c.args.script (arc_value c.in_ok-equal.equal) (c.in_ok-equal.ensures ∙ c.equal.ensures) c.in_ok-ledger.ledger
    ending.status ending.text c.in-Ok.moves c.in-Ok.ensures.resumed c.in_ok-opened_ending-in-Ok.ensures.status c.in_ok-opened_ending-in-Ok.ensures.text)

pub returns-in-Err-Refused : goal.returns-in-Err-Refused
returns-in-Err-Refused g c =
    let ending = c.in_ok-refused_ending-in-Err-Refused.field-0 in
    weighed c.in_ok-ledger.ledger c.in_ok-ledger.ensures.read
    (resumption_refused (case_of c.args.service.now.options c.args.form.now) c.args.script (arc_value c.in_ok-equal.equal) (c.in_ok-equal.ensures ∙ c.equal.ensures) c.in_ok-ledger.ledger
    ending.status ending.text c.in-Err-Refused.field-0 c.in-Err-Refused.ensures.stopped c.in-Err-Refused.line c.in-Err-Refused.reason c.in-Err-Refused.field-0-is
    c.in_ok-refused_ending-in-Err-Refused.ensures.status c.in_ok-refused_ending-in-Err-Refused.ensures.text)

pub returns-in-Err-NotReduced : goal.returns-in-Err-NotReduced
returns-in-Err-NotReduced g c =
    let ending = c.in_ok-not_reduced_ending-in-Err-NotReduced.field-0 in
    weighed c.in_ok-ledger.ledger c.in_ok-ledger.ensures.read
    (resumption_unreduced (case_of c.args.service.now.options c.args.form.now) c.args.script (arc_value c.in_ok-equal.equal) (c.in_ok-equal.ensures ∙ c.equal.ensures) c.in_ok-ledger.ledger
    ending.status ending.text c.in-Err-NotReduced.field-0 c.in-Err-NotReduced.ensures.stopped c.in-Err-NotReduced.number c.in-Err-NotReduced.field-0-is
    c.in_ok-not_reduced_ending-in-Err-NotReduced.ensures.status c.in_ok-not_reduced_ending-in-Err-NotReduced.ensures.text)
