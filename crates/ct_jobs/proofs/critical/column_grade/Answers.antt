use Rattle.ct_jobs.proofs.PairGrades.{column_sum}
use Rattle.ct_jobs.proofs.critical.column_grade.Goals as goal

pub returns : goal.returns
returns c = column_sum c.args.inst.now c.sums.result.now c.args.j c.requires.some c.requires.limit c.sums.ensures.sums
