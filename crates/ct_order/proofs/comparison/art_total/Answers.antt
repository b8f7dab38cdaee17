use Rattle.std.proofs.Common.{◌≡◌, ◌-◌, ◌*◌, ◌^◌, ◌<◌, ◌≤◌, length, take, drop, sym, subst, arith}
use Rattle.std.proofs.lemmas.List.{take_rest}
use Rattle.ct_vectors.specs.Vectors.{total}
use Rattle.ct_vectors.specs.declared.limits.TheConstants.{ROW_LIMIT, JOB_GRADE_LIMIT}
use Rattle.ct_order.proofs.CostSums.{artificials-limit}
use Rattle.ct_order.proofs.comparison.art_total.Goals as goal

pub sum-requires : goal.sum-requires
sum-requires c =
    let all : take (length c.args.p.now - c.columns.result) (drop c.columns.result c.args.p.now) ≡ drop c.columns.result c.args.p.now = take_rest c.args.p.now c.columns.result in
    let limit : total (drop c.columns.result c.args.p.now) ≤ ROW_LIMIT * JOB_GRADE_LIMIT = artificials-limit c.columns.result c.args.p.now (omega arith) c.requires.limit in
    subst (λ l. total l < 2 ^ 64) (sym all) (omega arith)
