use Rattle.std.proofs.Common.{◌≤◌, arith}
use Rattle.ct_vectors.specs.declared.limits.TheConstants.{GRADE_LIMIT}
use Rattle.ct_vectors.specs.Vectors.{total}
use Rattle.ct_answer.proofs.ToldReports.{right_sum}
use Rattle.ct_answer.proofs.gathering.covers.Goals as goal

pub sum-requires : goal.sum-requires
sum-requires c =
    let i = c.args.version.now.instance in
    let most : total c.args.b.now ≤ GRADE_LIMIT = right_sum i.rows c.args.b.now (c.number-number.ensures.version.instance).row_limit c.requires.right c.requires.limit in
    omega arith
