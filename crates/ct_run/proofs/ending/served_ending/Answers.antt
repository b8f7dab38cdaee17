use Rattle.std.proofs.Common.{sym, subst}
use Rattle.std.specs.Arc.{arc_value}
use Rattle.ct_instance.specs.Instance.{Problem}
use Rattle.ct_input.specs.Script.{IsScript}
use Rattle.ct_run.proofs.ToldForms.{served_told}
use Rattle.ct_run.proofs.ending.served_ending.Goals as goal

pub serve_report-requires-clause-script : goal.serve_report-requires-clause-script
serve_report-requires-clause-script g c κs within = subst (λ (p : Problem). IsScript p.rows c.in_ok-wide.wide) (sym c.equal.ensures) c.in_ok-wide.ensures.script

pub returns : goal.returns
returns g c =
    served_told c.args.form.now (arc_value c.equal.result.now) c.equal.ensures c.args.script c.in_ok-wide.wide c.in_ok-wide.ensures.wide
    c.args.service.now.options.limit c.args.service.now.options.walks c.args.service.now.options.levels c.in_ok-report.report c.told_ending.result c.told_ending.ensures 0 c.in_ok-report.ensures
