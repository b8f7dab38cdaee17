use Rattle.ct_vectors.specs.declared.limits.TheConstants.{COST_LIMIT, JOB_GRADE_LIMIT}
use Rattle.std.proofs.Common.{◌≡◌, ℕ, ℤ, pos, ◌+ℤ◌, ◌*ℤ◌, ◌+◌, ◌*◌, ◌≤◌, ◌<◌, length, drop, get_or, sym, ap, ◌∙◌, subst, arith, nat_abs, rules}
use Rattle.std.proofs.lemmas.Int.{to_z-of_z, fits_signed_from_abs}
use mir.Val.{SFits, to_z, of_z}
use mir.Syntax.{w64, w128}
use Rattle.ct_order.specs.Order.{cost_of}
use Rattle.ct_order.proofs.CostSums.{abs-product, cost_more}
use Rattle.ct_order.proofs.comparison.weighted_sum.Goals as goal

pub loop-i-preserved : goal.loop-i-preserved
loop-i-preserved c =
    let sum : ℤ = to_z w128 c.loop-i.sum-bits in
    let cost : ℤ = get_or c.args.costs.now c.loop-i.i (pos 0) in
    let x : ℕ = get_or c.args.p.now c.loop-i.i 0 in
    let in-cs : c.loop-i.i < length c.args.costs.now = omega arith in
    let in-p : c.loop-i.i < length c.args.p.now = omega arith in
    let small : nat_abs cost ≤ COST_LIMIT = c.requires.cost_limit c.loop-i.i (pos 0) in-cs in
    let fits : SFits w128 c.with_product-sum.result = search rules in
    let cost-fits : SFits w64 cost = fits_signed_from_abs w64 cost (omega arith) in
    let same : to_z w128 (of_z w128 c.with_product-sum.result) ≡ c.with_product-sum.result = to_z-of_z w128 c.with_product-sum.result fits in
    let value : to_z w128 (of_z w128 c.with_product-sum.result) ≡ sum +ℤ (cost *ℤ pos x) =
    same ∙ c.with_product-sum.ensures ∙ ap (λ z. sum +ℤ (z *ℤ pos x)) (to_z-of_z w64 cost cost-fits) in
    record {
      so_far = ap (λ z. z +ℤ cost_of (drop (c.loop-i.i + 1) c.args.costs.now) (drop (c.loop-i.i + 1) c.args.p.now)) value ∙
          cost_more sum c.args.costs.now c.args.p.now c.loop-i.i in-cs in-p ∙ c.loop-i.invariant.so_far;
      bound = subst (λ z. nat_abs z ≤ (c.loop-i.i + 1) * (COST_LIMIT * JOB_GRADE_LIMIT)) (sym value)
          (abs-product sum cost x c.loop-i.i c.loop-i.invariant.bound small (c.requires.limit c.loop-i.i 0 in-p));
    }
