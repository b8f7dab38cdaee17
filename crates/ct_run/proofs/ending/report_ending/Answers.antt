use Rattle.std.proofs.Common.{sym, subst, ◌∙◌}
use Rattle.std.specs.Arc.{arc_value}
use Rattle.ct_instance.specs.Instance.{Problem}
use Rattle.ct_input.specs.Script.{IsScript}
use Rattle.ct_run.proofs.ToldForms.{answered_told}
use Rattle.ct_run.proofs.ending.report_ending.Goals as goal

pub answer-requires-clause-script : goal.answer-requires-clause-script
answer-requires-clause-script g c = subst (λ (p : Problem). IsScript p.rows c.in_ok-wide.wide) (sym (c.in_ok-try_clone.ensures ∙ c.equal.ensures)) c.in_ok-wide.ensures.script

pub returns : goal.returns
returns g c =
    answered_told c.args.form.now (arc_value c.in_ok-try_clone.field-0) (c.in_ok-try_clone.ensures ∙ c.equal.ensures) c.args.script c.in_ok-wide.wide c.in_ok-wide.ensures.wide
    c.args.options.limit c.args.options.walks c.args.options.levels c.in_ok-report.report c.told_ending.result c.told_ending.ensures c.in_ok-report.ensures
