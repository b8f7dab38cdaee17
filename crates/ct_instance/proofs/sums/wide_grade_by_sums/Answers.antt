use Rattle.std.proofs.Common.{◌≡◌, ◌+◌, ◌-◌, ◌*◌, ◌≤◌, ◌<◌, ◌^◌, length, drop, take, get_or, arith, sym, subst}
use Rattle.std.proofs.lemmas.List.{take_rest}
use Rattle.ct_vectors.specs.Vectors.{total}
use Rattle.ct_vectors.specs.declared.limits.TheConstants.{ROW_LIMIT, ENTRY_LIMIT, JOB_GRADE_LIMIT}
use Rattle.ct_order.proofs.CostSums.{artificials-limit}
use Rattle.ct_instance.specs.Instance.{weighted}
use Rattle.ct_instance.proofs.Grades
use Rattle.ct_instance.proofs.sums.wide_grade_by_sums.Goals as goal

pub sum-requires : goal.sum-requires
sum-requires c =
    let all : take (length c.args.p.now - length c.args.sums.now) (drop (length c.args.sums.now) c.args.p.now) ≡ drop (length c.args.sums.now) c.args.p.now = take_rest c.args.p.now (length c.args.sums.now) in
    let limit : total (drop (length c.args.sums.now) c.args.p.now) ≤ ROW_LIMIT * JOB_GRADE_LIMIT = artificials-limit (length c.args.sums.now) c.args.p.now c.requires.most c.requires.limit in
    subst (λ l. total l < 2 ^ 64) (sym all) (omega arith)

pub loop-j-preserved : goal.loop-j-preserved
loop-j-preserved c =
    let more : weighted (drop c.loop-j.j c.args.sums.now) (drop c.loop-j.j c.args.p.now) ≡
    get_or c.args.sums.now c.loop-j.j 0 * get_or c.args.p.now c.loop-j.j 0 + weighted (drop (c.loop-j.j + 1) c.args.sums.now) (drop (c.loop-j.j + 1) c.args.p.now) =
    Grades.weighted_more c.args.sums.now c.args.p.now c.loop-j.j (omega arith) (omega arith) in
    let small-sum : get_or c.args.sums.now c.loop-j.j 0 ≤ ROW_LIMIT * ENTRY_LIMIT = c.requires.sum_limit c.loop-j.j 0 (omega arith) in
    let small : get_or c.args.p.now c.loop-j.j 0 ≤ JOB_GRADE_LIMIT = c.requires.limit c.loop-j.j 0 (omega arith) in
    let product : get_or c.args.sums.now c.loop-j.j 0 * get_or c.args.p.now c.loop-j.j 0 ≤ ROW_LIMIT * ENTRY_LIMIT * JOB_GRADE_LIMIT =
    Grades.product-limit (get_or c.args.sums.now c.loop-j.j 0) (get_or c.args.p.now c.loop-j.j 0) (ROW_LIMIT * ENTRY_LIMIT) JOB_GRADE_LIMIT small-sum small in
    record { so_far = omega arith; bound = omega arith }
