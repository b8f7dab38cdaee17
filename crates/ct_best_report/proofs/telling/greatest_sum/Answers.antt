use Rattle.std.proofs.Common.{◌<◌, ◌≤◌, ◌≡◌, max, [], length, map, All, sym, subst, ◌∙◌, arith}
use Rattle.std.proofs.lemmas.List.{take_all, get_or_default, length-map}
use Rattle.ct_vectors.specs.Vectors.{total}
use Rattle.ct_vectors.specs.declared.limits.TheConstants.{GRADE_LIMIT}
use Rattle.ct_instance.proofs.Points.{right-total}
use Rattle.ct_best_report.specs.BestReport.{IsAsked}
use Rattle.ct_best_report.proofs.Paired.{all_more}
use Rattle.ct_best_report.proofs.telling.greatest_sum.Goals as goal

pub sum-requires : goal.sum-requires
sum-requires c =
    let inside : c.loop-k.k < length (map (λ b. b.now) c.args.rights.now) = omega (arith, c.loop-k-test.true, length-map c.args.rights.now (λ b. b.now)) in
    let asked : IsAsked c.args.inst.now c.right_at.result.now = subst (IsAsked c.args.inst.now) (sym c.right_at.ensures) (c.requires c.loop-k.k [] inside) in
    let most : total c.right_at.result.now ≤ GRADE_LIMIT = right-total c.args.inst.now c.columns-columns.ensures.instance c.right_at.result.now asked.right asked.limit in
    omega arith

pub loop-k-preserved : goal.loop-k-preserved
loop-k-preserved c =
    let inside : c.loop-k.k < length (map (λ b. b.now) c.args.rights.now) = omega (arith, c.loop-k-test.true, length-map c.args.rights.now (λ b. b.now)) in
    let asked : IsAsked c.args.inst.now c.right_at.result.now = subst (IsAsked c.args.inst.now) (sym c.right_at.ensures) (c.requires c.loop-k.k [] inside) in
    let small : total c.right_at.result.now ≤ GRADE_LIMIT = right-total c.args.inst.now c.columns-columns.ensures.instance c.right_at.result.now asked.right asked.limit in
    let greater : c.max-top.result ≡ max c.loop-k.top (total c.right_at.result.now) = omega (arith, c.max-top.ensures, c.sum.ensures) in
    record {
      most = all_more (λ b. total b ≤ c.loop-k.top) (λ b. total b ≤ c.max-top.result) (map (λ b. b.now) c.args.rights.now) c.loop-k.k c.right_at.result.now inside
          (c.right_at.ensures ∙ get_or_default (map (λ b. b.now) c.args.rights.now) c.loop-k.k [] c.right_at.result.now inside)
          (λ b h. omega (arith, h, greater)) c.loop-k.invariant.most (omega (arith, greater));
      limit = omega (arith, greater, small, c.loop-k.invariant.limit);
    }

pub returns-clause-most : goal.returns-clause-most
returns-clause-most c =
    subst (All (λ b. total b ≤ c.loop-k.top))
    (take_all c.loop-k.k (map (λ b. b.now) c.args.rights.now) (omega (arith, c.loop-k-test.false, length-map c.args.rights.now (λ b. b.now)))) c.loop-k.invariant.most
