use Rattle.std.proofs.Common.{◌∙◌, ap, sym, subst, Result, Ok, Err, IfErr}
use Rattle.ct_form.specs.declared.forms.Form.{Form}
use Rattle.ct_form.specs.Forms.{Form as FormParts}
use Rattle.ct_run.specs.declared.stop.Stop.{Stop}
use Rattle.ct_run.specs.declared.stop.Stop.TheVariants.{Memory}
use Rattle.ct_input.specs.declared.fault.Fault.{Fault}
use Rattle.ct_input.specs.declared.fault.InputStop.{InputStop}
use Rattle.ct_input.specs.declared.limits.TheConstants.{INSTANCE_FILE_LIMIT}
use Rattle.ct_input.specs.Sheet.{Fails}
use Rattle.ct_run.specs.Forms.{form_file}
use Rattle.ct_run.specs.Outcome.{bad_instance}
use Rattle.ct_run.specs.Plan.{Plan, by_value, instance_plan}
use Rattle.ct_run.specs.Stopping.{Fits, Ran}
use Rattle.ct_run.proofs.TooLong.{form-front}
use Rattle.ct_run.proofs.Readings.{handed_up, not_read, read_leads, read_refused}
use Rattle.ct_run.proofs.reading.form_at.Goals as goal

pub returns-in_err-bytes-clause-stopped : goal.returns-in_err-bytes-clause-stopped
returns-in_err-bytes-clause-stopped g c =
    handed_up c.in_err-bytes.field-0.0 (λ (r : Result Form Stop). IfErr r (λ stop. (go : FormParts → Plan) → Ran (instance_plan c.args.name.now go) (g.S.Shelf.told c.args.shelf.now) (g.S.Shelf.faults c.args.shelf.now) (g.S.Shelf.faults c.file_at.new.shelf) (Err stop)))
    c.from_residual.result c.from_residual.ensures.1
    (λ go. not_read (g.S.Shelf.told c.args.shelf.now) (g.S.Shelf.faults c.args.shelf.now) (g.S.Shelf.faults c.file_at.new.shelf) c.args.name.now c.in_err-bytes.ensures.shelf.others (λ bytes. by_value bad_instance go (form_file bytes)) c.in_err-bytes.field-0.0 c.in_err-bytes.ensures.cause)

pub returns-in_err-bad_instance_ending-in-Err-Fault-clause-stopped : goal.returns-in_err-bad_instance_ending-in-Err-Fault-clause-stopped
returns-in_err-bad_instance_ending-in-Err-Fault-clause-stopped g c =
    handed_up Memory (λ (r : Result Form Stop). IfErr r (λ stop. (go : FormParts → Plan) → Ran (instance_plan c.args.name.now go) (g.S.Shelf.told c.args.shelf.now) (g.S.Shelf.faults c.args.shelf.now) (g.S.Shelf.faults c.file_at.new.shelf) (Err stop)))
    c.from_residual-in_err-bad_instance_ending-in-Err-Fault.result c.from_residual-in_err-bad_instance_ending-in-Err-Fault.ensures.1
    (λ go. not_read (g.S.Shelf.told c.args.shelf.now) (g.S.Shelf.faults c.args.shelf.now) (g.S.Shelf.faults c.file_at.new.shelf) c.args.name.now c.in_ok-bytes.ensures.shelf.others (λ bytes. by_value bad_instance go (form_file bytes)) Memory tt)

pub returns-in-Ok-clause-read : goal.returns-in-Ok-clause-read
returns-in-Ok-clause-read g c = λ go.
    read_leads (g.S.Shelf.told c.args.shelf.now) (g.S.Shelf.faults c.args.shelf.now) (g.S.Shelf.faults c.file_at.new.shelf) c.args.name.now c.in_ok-bytes.ensures.shelf.others
    form_file bad_instance go INSTANCE_FILE_LIMIT c.in_ok-bytes.bytes.items form-front c.in_ok-bytes.ensures.read c.in_ok-bytes.ensures.shelf.later
    c.in-Ok.form (ap form_file (sym c.deref.ensures.value) ∙ c.in-Ok.ensures)

pub returns-in-Err-Fault-clause-stopped : goal.returns-in-Err-Fault-clause-stopped
returns-in-Err-Fault-clause-stopped g c = λ go.
    read_refused (g.S.Shelf.told c.args.shelf.now) (g.S.Shelf.faults c.args.shelf.now) (g.S.Shelf.faults c.file_at.new.shelf) c.args.name.now c.in_ok-bytes.ensures.shelf.others
    form_file bad_instance go INSTANCE_FILE_LIMIT c.in_ok-bytes.bytes.items form-front c.in_ok-bytes.ensures.read
    c.in-Err-Fault.fault c.in_ok-bad_instance_ending-in-Err-Fault.field-0
    (ap form_file (sym c.deref.ensures.value) ∙ subst (λ (s : InputStop). Fails s (form_file c.deref.result.now)) c.in-Err-Fault.field-0-is c.in-Err-Fault.ensures)
    (subst (λ (f : Fault). Fits (bad_instance f) c.in_ok-bad_instance_ending-in-Err-Fault.field-0) c.in-Err-Fault.fault-is c.in_ok-bad_instance_ending-in-Err-Fault.ensures)
