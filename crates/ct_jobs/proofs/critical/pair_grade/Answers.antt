use Rattle.std.proofs.Common.{◌≡◌, ◌≤◌, sym, subst, ap, ap₂, ◌∙◌, arith}
use Rattle.ct_vectors.specs.declared.limits.TheConstants.{JOB_GRADE_LIMIT}
use Rattle.ct_vectors.specs.Vectors.{lcm}
use Rattle.ct_instance.specs.Instance.{grade_of, weighted}
use Rattle.ct_instance.specs.Jobs.{the_move}
use Rattle.ct_instance.proofs.Grades.{grade_is_weighted}
use Rattle.ct_jobs.proofs.PairGrades.{small_move, pair_grade_limit}
use Rattle.ct_jobs.proofs.critical.pair_grade.Goals as goal

pub lcm_grade-requires-clause-fits : goal.lcm_grade-requires-clause-fits
lcm_grade-requires-clause-fits c =
    let l = c.args.moves.now in
    let i = c.args.inst.now in
    let m = the_move l.moves c.args.i in
    let n = the_move l.moves c.args.k in
    let a = small_move l c.instance-instance.ensures.checked c.args.i c.requires.job.0 (omega (arith, c.requires.job.1, c.requires.job.2)) in
    let b = small_move l c.instance-instance.ensures.checked c.args.k (omega (arith, c.requires.job.0, c.requires.job.1)) c.requires.job.2 in
    let first = c.as_slice-first.ensures.coordinates ∙ c.head.ensures ∙ ap (λ m. m.head) c.get.ensures.at in
    let second = c.as_slice-second.ensures.coordinates ∙ c.head-2.ensures ∙ ap (λ m. m.head) c.get-2.ensures.at in
    let same : weighted c.sums.result.now (lcm c.as_slice-first.result.now c.as_slice-second.result.now) ≡ grade_of i.columns (lcm m.head n.head) =
    ap₂ weighted c.sums.ensures.sums (ap₂ lcm first second) ∙ sym (grade_is_weighted i.columns (lcm m.head n.head)) in
    let limit : grade_of i.columns (lcm m.head n.head) ≤ JOB_GRADE_LIMIT = subst (λ j. grade_of j.columns (lcm m.head n.head) ≤ JOB_GRADE_LIMIT) c.requires.instance (pair_grade_limit l.instance m n a b) in
    omega arith

pub returns : goal.returns
returns c =
    let i = c.args.inst.now in
    let m = the_move c.args.moves.now.moves c.args.i in
    let n = the_move c.args.moves.now.moves c.args.k in
    let first = c.as_slice-first.ensures.coordinates ∙ c.head.ensures ∙ ap (λ m. m.head) c.get.ensures.at in
    let second = c.as_slice-second.ensures.coordinates ∙ c.head-2.ensures ∙ ap (λ m. m.head) c.get-2.ensures.at in
    c.lcm_grade.ensures ∙ ap₂ weighted c.sums.ensures.sums (ap₂ lcm first second) ∙ sym (grade_is_weighted i.columns (lcm m.head n.head))
