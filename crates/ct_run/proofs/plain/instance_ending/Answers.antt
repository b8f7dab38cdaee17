use Rattle.std.proofs.Common.{Result}
use Rattle.ct_run.specs.declared.ending.Ending.{Ending}
use Rattle.ct_run.specs.declared.stop.Stop.{Stop}
use Rattle.ct_run.specs.Commands.{work_seen}
use Rattle.ct_run.specs.Plan.{work_plan, instance_plan}
use Rattle.ct_run.specs.Stopping.{Ran}
use Rattle.ct_run.proofs.Readings.{handed_up}
use Rattle.ct_run.proofs.plain.instance_ending.Goals as goal

pub returns-in_err-form-clause-ran : goal.returns-in_err-form-clause-ran
returns-in_err-form-clause-ran g c =
    handed_up c.in_err-form.field-0.0 (λ (r : Result Ending Stop). Ran (instance_plan c.args.instance.now (work_plan (work_seen c.args.work))) (g.S.Shelf.told c.args.shelf.now) (g.S.Shelf.faults c.args.shelf.now) (g.S.Shelf.faults c.form_at.new.shelf) r)
    c.from_residual.result c.from_residual.ensures.1
    (c.in_err-form.ensures.stopped (work_plan (work_seen c.args.work)))
