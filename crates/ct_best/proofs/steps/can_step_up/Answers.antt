use Rattle.std.proofs.Common.{◌≡◌, ℕ, List, sym, subst, ap, ◌∙◌, true≢false}
use Rattle.ct_vectors.specs.Vectors.{divides}
use Rattle.ct_vectors.proofs.Divisors.{Divides-from_test, test_from_Divides}
use Rattle.ct_order.specs.Order.{art_total_of}
use Rattle.ct_instance.specs.Instance.{column_count}
use Rattle.ct_best.proofs.steps.can_step_up.Goals as goal

pub returns-then-divides : goal.returns-then-divides
returns-then-divides c = (
  λ yes. record {
    fits = Divides-from_test c.args.mv.now.tail c.args.p.now (ap (λ (t : List ℕ). divides t c.args.p.now) (sym c.tail.ensures) ∙ sym c.divides.ensures ∙ c.if-divides.true);
    none = subst (λ (h : List ℕ). art_total_of (column_count c.args.inst.now) h ≡ 0) c.head.ensures (c.has_no_artificials.ensures.0 yes);
  },
  λ can. c.has_no_artificials.ensures.1 (subst (λ (h : List ℕ). art_total_of (column_count c.args.inst.now) h ≡ 0) (sym c.head.ensures) can.none),
)

pub returns-else-divides : goal.returns-else-divides
returns-else-divides c = (
  λ yes. absurd (true≢false (sym yes ∙ c.if-divides.false)),
  λ can. absurd (true≢false (sym (c.divides.ensures ∙ ap (λ (t : List ℕ). divides t c.args.p.now) c.tail.ensures ∙ test_from_Divides c.args.mv.now.tail c.args.p.now can.fits) ∙ c.if-divides.false)),
)
