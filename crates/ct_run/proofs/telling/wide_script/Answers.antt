use Rattle.ct_run.proofs.ToldForms.{wide_scripts}
use Rattle.ct_run.proofs.telling.wide_script.Goals as goal

pub returns-clause-wide : goal.returns-clause-wide
returns-clause-wide c = (wide_scripts c.args.form.now c.rows-rows.ensures.form c.args.script c.requires c.bounds.result.now c.bounds.ensures c.widen.result c.widen.ensures).0

pub returns-clause-script : goal.returns-clause-script
returns-clause-script c = (wide_scripts c.args.form.now c.rows-rows.ensures.form c.args.script c.requires c.bounds.result.now c.bounds.ensures c.widen.result c.widen.ensures).1
