-- What is kept of the form of an instance is the instance.
use Rattle.std.proofs.Common.{◌≡◌, List, ℕ, [], length, sym, subst, ap, ◌∙◌}
use Rattle.ct_instance.specs.Instance.{Problem, IsInstance}
use Rattle.ct_form.specs.declared.relation.Limits.{Limits}
use Rattle.ct_form.specs.Forms.{Form, given_in}
use Rattle.ct_form.specs.EqualityForms.{equal_of, plain_form, IsForm}
use Rattle.ct_form.specs.Kept.{form_in, IsKept}
use Rattle.ct_form.specs.Made.{plain_limits}
use Rattle.ct_form.proofs.Kept.{form_is_in_equal}
use Rattle.ct_form.proofs.Plain.{none_given, plain_equal, plain_is_form}

module _ (i : Problem) (h : IsInstance i) (m n : ℕ) (held : Limits) (rows : m ≡ i.rows) (columns : n ≡ length i.columns) (plain : held ≡ plain_limits m n) where
  pub plain_is_seen : form_in m n held.relations held.bounds i ≡ plain_form i
  plain_is_seen =
      ap (λ (l : Limits). form_in m n l.relations l.bounds i) plain ∙
      (λ t. form_in (rows t) (columns t) (plain_limits (rows t) (columns t)).relations (plain_limits (rows t) (columns t)).bounds i) ∙
      ap (form_in i.rows (length i.columns) (plain_form i).relations (plain_form i).bounds) (sym (plain_equal i)) ∙
      form_is_in_equal (plain_form i) (plain_is_form i h)

  pub plain_is_kept : (given : List ℕ) → given ≡ [] → IsKept m n held.relations held.bounds given i
  plain_is_kept given none = record {
    form = subst IsForm (sym plain_is_seen) (plain_is_form i h);
    columns = ap (λ (g : Form). length g.columns) plain_is_seen ∙ sym columns;
    equal = sym (plain_equal i) ∙ ap equal_of (sym plain_is_seen);
    given_are = none ∙ sym (ap (λ (l : Limits). given_in l.bounds) plain ∙ none_given n);
  }
