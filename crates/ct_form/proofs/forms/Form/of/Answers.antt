use Rattle.std.proofs.Common.{length, subst, ap, ◌∙◌}
use Rattle.std.specs.Arc.{arc_value}
use Rattle.ct_instance.specs.Instance.{Problem, IsInstance}
use Rattle.ct_form.proofs.PlainKept.{plain_is_seen, plain_is_kept}
use Rattle.ct_form.proofs.forms.Form.of.Goals as goal

pub invariant_of-result : goal.invariant_of-result
invariant_of-result c =
    plain_is_kept (arc_value c.args.instance) (subst IsInstance c.deref.ensures c.rows-rows.ensures.instance) c.rows-rows.result c.columns-columns.result c.in_ok-limits.limits
    (c.rows-rows.ensures.rows ∙ ap (λ (i : Problem). i.rows) c.deref.ensures)
    (c.columns-columns.ensures.columns ∙ ap (λ (i : Problem). length i.columns) c.deref-2.ensures) c.in_ok-limits.ensures c.new.result.items c.new.ensures.items

pub returns : goal.returns
returns c =
    plain_is_seen (arc_value c.args.instance) (subst IsInstance c.deref.ensures c.rows-rows.ensures.instance) c.rows-rows.result c.columns-columns.result c.in_ok-limits.limits
    (c.rows-rows.ensures.rows ∙ ap (λ (i : Problem). i.rows) c.deref.ensures)
    (c.columns-columns.ensures.columns ∙ ap (λ (i : Problem). length i.columns) c.deref-2.ensures) c.in_ok-limits.ensures
