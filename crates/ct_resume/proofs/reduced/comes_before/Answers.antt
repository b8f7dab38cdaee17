use Rattle.std.proofs.Common.{◌≡◌, inr, ⊎_elim, length, sym, ap₂, ◌∙◌, arith}
use Rattle.std.specs.Cmp.Lexicographic.{slice_cmp}
use Rattle.std.specs.Ordering.{nat_cmp}
use Rattle.ct_instance.specs.Instance.{grade_of}
use Rattle.ct_order.specs.Order.{first_difference}
use Rattle.ct_resume.proofs.Comparing.{first_is, index_of_less, less_has_index}
use Rattle.ct_resume.proofs.reduced.comes_before.Goals as goal

pub returns : goal.returns
returns c =
    let same : grade_of c.args.inst.now.columns c.args.p.now ≡ grade_of c.args.inst.now.columns c.args.q.now = omega (arith, c.grade-first.ensures, c.grade-second.ensures, c.if-first-second.false) in
    let wide : length c.args.p.now ≡ length c.args.q.now = c.requires.first_point ∙ sym c.requires.second_point in
    let order : c.cmp.result ≡ first_difference c.args.p.now c.args.q.now =
    c.cmp.ensures ∙ ap₂ (slice_cmp nat_cmp) c.as_slice.ensures.coordinates c.as_slice-2.ensures.coordinates ∙ first_is c.args.p.now c.args.q.now wide in (
      λ e. inr (same, sym order ∙ index_of_less c.cmp.result (sym c.eq.ensures ∙ e)),
      λ h. ⊎_elim (λ l. absurd (omega (arith, same, l))) (λ r. c.eq.ensures ∙ less_has_index c.cmp.result (order ∙ r.1)) h,
    )
