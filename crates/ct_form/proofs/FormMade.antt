-- A form that is made of its numbers.
use Rattle.std.proofs.Common.{ℕ, ℤ, ◌≡◌, ◌≤◌, ◌/◌, All, List, length, sym, subst, ap, ap₂, ◌∙◌}
use Rattle.std.proofs.lemmas.List.Elements.{All-weaker}
use Rattle.ct_vectors.specs.declared.limits.TheConstants.{ENTRY_LIMIT}
use Rattle.ct_order.specs.Costs.{IsCostRow}
use Rattle.ct_order.proofs.CostRows.{are_rows}
use Rattle.ct_instance.specs.Instance.{Problem, IsInstance}
use Rattle.ct_instance.specs.Made.{columns_of}
use Rattle.ct_instance.proofs.Entries.{length-columns_of, columns-limit}
use Rattle.ct_form.specs.declared.relation.Limits.{Limits}
use Rattle.ct_form.specs.Forms.{Form, given_in}
use Rattle.ct_form.specs.EqualityForms.{equal_of, IsForm}
use Rattle.ct_form.specs.Kept.{form_in, IsKept}
use Rattle.ct_form.specs.Made.{form_of, HasNumbers}
use Rattle.ct_form.proofs.Kept.{form_is_in_equal}
use Rattle.ct_form.proofs.EqualMade.{cost_count}

module _ (m n : ℕ) (es : List ℕ) (held : Limits) (costs : List ℤ) (h : HasNumbers m n es held costs) (i : Problem)
    (equal : i ≡ equal_of (form_of m n es held costs)) (instance : IsInstance i) where
  abbrev f : Form
  f = form_of m n es held costs

  wide : length (columns_of m n es) ≡ n
  wide = length-columns_of m n es

  pub made_is_form : IsForm f
  made_is_form = record {
    some_row = h.some_row;
    some_column = subst (λ k. 1 ≤ k) (sym wide) h.some_column;
    entries = All-weaker (λ c. (length c ≡ m) × All (λ a. a ≤ ENTRY_LIMIT) c) (λ c. length c ≡ m) (λ c p. p.0) (columns_of m n es) (columns-limit ENTRY_LIMIT m n es h.entry_limit);
    costs = All-weaker (IsCostRow n) (λ row. length row ≡ length (columns_of m n es)) (λ row p. p.entries ∙ sym wide) f.cost_rows (are_rows (length costs / n) n costs (cost_count m n es held costs h) h.cost_limit);
    relation_count = h.relation_count;
    bound_for_each = h.bound_for_each ∙ sym wide;
    bound_limit = h.bound_limit;
    equal = subst IsInstance equal instance;
  }

  pub made_is_seen : form_in m n held.relations held.bounds i ≡ f
  made_is_seen = ap₂ (λ k j. form_in m k held.relations held.bounds j) (sym wide) equal ∙ form_is_in_equal f made_is_form

  pub made_is_kept : (given : List ℕ) → given ≡ given_in held.bounds → IsKept m n held.relations held.bounds given i
  made_is_kept given are = record {
    form = subst IsForm (sym made_is_seen) made_is_form;
    columns = ap (λ (g : Form). length g.columns) made_is_seen ∙ wide;
    equal = equal ∙ ap equal_of (sym made_is_seen);
    given_are = are;
  }
