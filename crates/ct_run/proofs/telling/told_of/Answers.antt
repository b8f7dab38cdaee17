use Rattle.std.proofs.Common.{sym, ap, ◌∙◌}
use Rattle.ct_instance.specs.Instance.{column_count}
use Rattle.ct_run.proofs.ToldForms.{told_whole, told_trimmed}
use Rattle.ct_run.proofs.telling.told_of.Goals as goal

pub returns-then-columns : goal.returns-then-columns
returns-then-columns c =
    told_whole c.args.form.now c.columns-columns.ensures.form
    (ap column_count (sym (c.deref.ensures ∙ c.equal.ensures)) ∙ sym c.columns.ensures.columns ∙ c.if-columns.true ∙ c.columns-columns.ensures.columns) c.args.report

pub returns : goal.returns
returns c =
    told_trimmed c.args.form.now c.args.report c.columns-columns.result c.columns-columns.ensures.columns c.trim_report.result c.trim_report.ensures
