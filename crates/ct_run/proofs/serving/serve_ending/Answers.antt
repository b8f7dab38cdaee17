use Rattle.std.proofs.Common.{◌≡◌, ℕ, List, Result, Ok, Err, map, option_map, sym, subst}
use Rattle.ct_outside.specs.Shelf.{Told}
use Rattle.ct_run.specs.declared.ending.Ending.{Ending}
use Rattle.ct_run.specs.declared.stop.Stop.{Stop}
use Rattle.ct_form.specs.Forms.{Form}
use Rattle.ct_input.specs.declared.script.Script.{Script}
use Rattle.ct_run.specs.Plan.{Plan, case_of, served_plan, serve_plan, instance_plan}
use Rattle.ct_run.specs.Stopping.{Ran}
use Rattle.ct_run.proofs.Readings.{handed_up, goes_on}
use Rattle.ct_run.proofs.serving.serve_ending.Goals as goal

pub returns-in_err-form-clause-ran : goal.returns-in_err-form-clause-ran
returns-in_err-form-clause-ran g c =
    let rest : Form → Plan = serve_plan c.args.sessions.now (option_map (λ name. name.now) c.args.resume) c.args.service.now.options in
    handed_up c.in_err-form.field-0.0 (λ (r : Result Ending Stop). Ran (instance_plan c.args.instance.now rest) (g.S.Shelf.told c.args.shelf.now) (g.S.Shelf.faults c.args.shelf.now) (g.S.Shelf.faults c.form_at.new.shelf) r)
    c.from_residual.result c.from_residual.ensures.1 (c.in_err-form.ensures.stopped rest)

pub returns-in_err-script-clause-ran : goal.returns-in_err-script-clause-ran
returns-in_err-script-clause-ran g c =
    let f : Form = c.in_ok-form.form in
    let resume = option_map (λ name. name.now) c.args.resume in
    let rest : Form → Plan = serve_plan c.args.sessions.now resume c.args.service.now.options in
    let go : Script → Plan = served_plan resume (case_of c.args.service.now.options f) in
    handed_up c.in_err-script.field-0.0 (λ (r : Result Ending Stop). Ran (instance_plan c.args.instance.now rest) (g.S.Shelf.told c.args.shelf.now) (g.S.Shelf.faults c.args.shelf.now) (g.S.Shelf.faults c.script_at.new.shelf) r)
    c.from_residual-in_err-script.result c.from_residual-in_err-script.ensures.1
    (goes_on (instance_plan c.args.instance.now rest) c.args.sessions.now c.rows.result f.rows go
    (g.S.Shelf.told c.args.shelf.now) (g.S.Shelf.told c.form_at.new.shelf) (g.S.Shelf.faults c.args.shelf.now) (g.S.Shelf.faults c.form_at.new.shelf) (g.S.Shelf.faults c.script_at.new.shelf)
    (c.in_ok-form.ensures.read rest) c.in_ok-form.ensures.shelf.kept c.rows.ensures.rows
    (Err c.in_err-script.field-0.0) (c.in_err-script.ensures.stopped go))

pub returns-clause-ran : goal.returns-clause-ran
returns-clause-ran g c =
    let f : Form = c.in_ok-form.form in
    let resume = option_map (λ name. name.now) c.args.resume in
    let rest : Form → Plan = serve_plan c.args.sessions.now resume c.args.service.now.options in
    let go : Script → Plan = served_plan resume (case_of c.args.service.now.options f) in
    goes_on (instance_plan c.args.instance.now rest) c.args.sessions.now c.rows.result f.rows go
    (g.S.Shelf.told c.args.shelf.now) (g.S.Shelf.told c.form_at.new.shelf) (g.S.Shelf.faults c.args.shelf.now) (g.S.Shelf.faults c.form_at.new.shelf) (g.S.Shelf.faults c.script_served.new.shelf)
    (c.in_ok-form.ensures.read rest) c.in_ok-form.ensures.shelf.kept c.rows.ensures.rows c.script_served.result
    (c.in_ok-script.ensures.read go (g.S.Shelf.faults c.script_served.new.shelf) c.script_served.result
    (subst (λ (t : List ℕ → Told). Ran (go c.in_ok-script.script) t (g.S.Shelf.faults c.script_at.new.shelf) (g.S.Shelf.faults c.script_served.new.shelf) c.script_served.result) c.in_ok-script.ensures.shelf.kept c.script_served.ensures.ran))
