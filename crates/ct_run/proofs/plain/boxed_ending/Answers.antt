use Rattle.std.proofs.Common.{ℕ, subst, refl, Result, Ok, Err}
use Rattle.ct_run.specs.declared.ending.Ending.{Ending}
use Rattle.ct_run.specs.declared.stop.Stop.{Stop}
use Rattle.ct_run.specs.Outcome.{boxed}
use Rattle.ct_run.specs.Plan.{ends, script_plan}
use Rattle.ct_run.specs.Stopping.{Ran}
use Rattle.ct_run.proofs.Readings.{handed_up}
use Rattle.ct_run.proofs.plain.boxed_ending.Goals as goal

pub returns-in_err-script-clause-ran : goal.returns-in_err-script-clause-ran
returns-in_err-script-clause-ran g c =
    handed_up c.in_err-script.field-0.0 (λ (r : Result Ending Stop). Ran (script_plan c.args.sessions.now c.args.form.now.rows (λ script. ends (boxed c.args.form.now c.args.moves c.args.walks script))) (g.S.Shelf.told c.args.shelf.now) (g.S.Shelf.faults c.args.shelf.now) (g.S.Shelf.faults c.script_at.new.shelf) r)
    c.from_residual.result c.from_residual.ensures.1
    (subst (λ (m : ℕ). Ran (script_plan c.args.sessions.now m (λ script. ends (boxed c.args.form.now c.args.moves c.args.walks script))) (g.S.Shelf.told c.args.shelf.now) (g.S.Shelf.faults c.args.shelf.now) (g.S.Shelf.faults c.script_at.new.shelf) (Err c.in_err-script.field-0.0))
    c.rows.ensures.rows
    (c.in_err-script.ensures.stopped (λ script. ends (boxed c.args.form.now c.args.moves c.args.walks script))))

pub returns-clause-ran : goal.returns-clause-ran
returns-clause-ran g c =
    subst (λ (m : ℕ). Ran (script_plan c.args.sessions.now m (λ script. ends (boxed c.args.form.now c.args.moves c.args.walks script))) (g.S.Shelf.told c.args.shelf.now) (g.S.Shelf.faults c.args.shelf.now) (g.S.Shelf.faults c.script_at.new.shelf) (Ok c.in_ok-box_ending.field-0))
    c.rows.ensures.rows
    (c.in_ok-script.ensures.read (λ script. ends (boxed c.args.form.now c.args.moves c.args.walks script)) (g.S.Shelf.faults c.script_at.new.shelf) (Ok c.in_ok-box_ending.field-0) (λ name out. refl, c.in_ok-box_ending.ensures))
