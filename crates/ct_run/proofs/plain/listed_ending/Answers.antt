use Rattle.std.proofs.Common.{ℕ, subst, refl, Result, Ok, Err, length}
use Rattle.ct_run.specs.declared.ending.Ending.{Ending}
use Rattle.ct_run.specs.declared.stop.Stop.{Stop}
use Rattle.ct_run.specs.Plan.{ends, case_of, script_plan, listed_or_too_many}
use Rattle.ct_run.specs.Stopping.{Ran}
use Rattle.ct_run.proofs.Readings.{handed_up}
use Rattle.ct_run.proofs.plain.listed_ending.Goals as goal

pub returns-in_err-script-clause-ran : goal.returns-in_err-script-clause-ran
returns-in_err-script-clause-ran g c =
    handed_up c.in_err-script.field-0.0 (λ (r : Result Ending Stop). Ran (script_plan c.args.sessions.now c.args.form.now.rows (λ script. ends (listed_or_too_many (case_of c.args.options c.args.form.now) (length c.args.form.now.columns) c.args.count script))) (g.S.Shelf.told c.args.shelf.now) (g.S.Shelf.faults c.args.shelf.now) (g.S.Shelf.faults c.script_at.new.shelf) r)
    c.from_residual.result c.from_residual.ensures.1
    (subst (λ (m : ℕ). Ran (script_plan c.args.sessions.now m (λ script. ends (listed_or_too_many (case_of c.args.options c.args.form.now) (length c.args.form.now.columns) c.args.count script))) (g.S.Shelf.told c.args.shelf.now) (g.S.Shelf.faults c.args.shelf.now) (g.S.Shelf.faults c.script_at.new.shelf) (Err c.in_err-script.field-0.0))
    c.rows.ensures.rows
    (c.in_err-script.ensures.stopped (λ script. ends (listed_or_too_many (case_of c.args.options c.args.form.now) (length c.args.form.now.columns) c.args.count script))))

pub returns-clause-ran : goal.returns-clause-ran
returns-clause-ran g c =
    subst (λ (m : ℕ). Ran (script_plan c.args.sessions.now m (λ script. ends (listed_or_too_many (case_of c.args.options c.args.form.now) (length c.args.form.now.columns) c.args.count script))) (g.S.Shelf.told c.args.shelf.now) (g.S.Shelf.faults c.args.shelf.now) (g.S.Shelf.faults c.script_at.new.shelf) (Ok c.in_ok-best_ending.field-0))
    c.rows.ensures.rows
    (c.in_ok-script.ensures.read (λ script. ends (listed_or_too_many (case_of c.args.options c.args.form.now) (length c.args.form.now.columns) c.args.count script)) (g.S.Shelf.faults c.script_at.new.shelf) (Ok c.in_ok-best_ending.field-0) (λ name out. refl, c.in_ok-best_ending.ensures))
