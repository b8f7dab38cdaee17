use Rattle.std.proofs.Common.{◌≡◌, ◌*◌, length, get_or, max, ap, ap₂, arith}
use Rattle.std.proofs.lemmas.List.{take_rest}
use Rattle.ct_vectors.specs.Vectors.{lcm, total}
use Rattle.ct_jobs.proofs.TwoHeads.{lcm_weighted_more, lcm_artificials}
use Rattle.ct_jobs.proofs.heads.lcm_grade.Goals as goal

pub overflow_mul-sum : goal.overflow_mul-sum
overflow_mul-sum c =
    let m : c.max.result ≡ max (get_or c.args.p.now c.loop-j.j 0) (get_or c.args.q.now c.loop-j.j 0) = omega arith in
    omega (arith, ap (λ x. get_or c.args.sums.now c.loop-j.j 0 * x) m, lcm_weighted_more c.args.sums.now c.args.p.now c.args.q.now c.loop-j.j (omega arith) c.requires.columns c.requires.width)

pub overflow_add-sum : goal.overflow_add-sum
overflow_add-sum c =
    let m : c.max.result ≡ max (get_or c.args.p.now c.loop-j.j 0) (get_or c.args.q.now c.loop-j.j 0) = omega arith in
    omega (arith, ap (λ x. get_or c.args.sums.now c.loop-j.j 0 * x) m, lcm_weighted_more c.args.sums.now c.args.p.now c.args.q.now c.loop-j.j (omega arith) c.requires.columns c.requires.width)

pub loop-j-preserved : goal.loop-j-preserved
loop-j-preserved c =
    let m : c.max.result ≡ max (get_or c.args.p.now c.loop-j.j 0) (get_or c.args.q.now c.loop-j.j 0) = omega arith in
    omega (arith, ap (λ x. get_or c.args.sums.now c.loop-j.j 0 * x) m, lcm_weighted_more c.args.sums.now c.args.p.now c.args.q.now c.loop-j.j (omega arith) c.requires.columns c.requires.width)

pub lcm_total-requires-clause-fits : goal.lcm_total-requires-clause-fits
lcm_total-requires-clause-fits c =
    let e = ap₂ (λ l k. total (lcm l k)) (take_rest c.args.p.now (length c.args.sums.now)) (take_rest c.args.q.now (length c.args.sums.now)) in
    omega (arith, e, lcm_artificials c.args.sums.now c.args.p.now c.args.q.now c.loop-j.j (omega arith))

pub overflow_add-result : goal.overflow_add-result
overflow_add-result c =
    let e = ap₂ (λ l k. total (lcm l k)) (take_rest c.args.p.now (length c.args.sums.now)) (take_rest c.args.q.now (length c.args.sums.now)) in
    omega (arith, e, lcm_artificials c.args.sums.now c.args.p.now c.args.q.now c.loop-j.j (omega arith))

pub returns : goal.returns
returns c =
    let e = ap₂ (λ l k. total (lcm l k)) (take_rest c.args.p.now (length c.args.sums.now)) (take_rest c.args.q.now (length c.args.sums.now)) in
    omega (arith, e, lcm_artificials c.args.sums.now c.args.p.now c.args.q.now c.loop-j.j (omega arith))
