use Rattle.std.proofs.Common.{◌≡◌, sym, subst, ap, ◌∙◌}
use Rattle.std.specs.Arc.{arc_value}
use Rattle.ct_instance.specs.Instance.{IsInstance}
use Rattle.ct_form.specs.Forms.{given_in}
use Rattle.ct_form.specs.EqualityForms.{equal_of}
use Rattle.ct_form.specs.Made.{form_of}
use Rattle.ct_form.proofs.FormMade.{made_is_seen, made_is_kept}
use Rattle.ct_form.proofs.forms.Form.new.Goals as goal

pub invariant_of-result : goal.invariant_of-result
invariant_of-result c =
    let equal : arc_value c.in-Ok.equal ≡ equal_of (form_of c.args.rows c.args.columns c.args.entries.now c.args.limits c.args.costs.now) = c.in-Ok.ensures.ok ∙ c.in_ok-instance.ensures.ok in
    let instance : IsInstance (arc_value c.in-Ok.equal) = subst IsInstance (sym c.in-Ok.ensures.ok) c.rows-rows.ensures.instance in
    made_is_kept c.args.rows c.args.columns c.args.entries.now c.args.limits c.args.costs.now c.requires (arc_value c.in-Ok.equal) equal instance c.in_ok-given.given.items
    (c.in_ok-given.ensures ∙ ap given_in c.as_slice.ensures)

pub returns-clause-ok : goal.returns-clause-ok
returns-clause-ok c =
    let equal : arc_value c.in-Ok.equal ≡ equal_of (form_of c.args.rows c.args.columns c.args.entries.now c.args.limits c.args.costs.now) = c.in-Ok.ensures.ok ∙ c.in_ok-instance.ensures.ok in
    let instance : IsInstance (arc_value c.in-Ok.equal) = subst IsInstance (sym c.in-Ok.ensures.ok) c.rows-rows.ensures.instance in
    made_is_seen c.args.rows c.args.columns c.args.entries.now c.args.limits c.args.costs.now c.requires (arc_value c.in-Ok.equal) equal instance
