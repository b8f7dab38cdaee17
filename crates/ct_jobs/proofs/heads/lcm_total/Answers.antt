use Rattle.std.proofs.Common.{arith}
use Rattle.ct_jobs.proofs.TwoHeads.{lcm_total_more, lcm_total_all}
use Rattle.ct_jobs.proofs.heads.lcm_total.Goals as goal

pub overflow_add-sum : goal.overflow_add-sum
overflow_add-sum c = omega (arith, lcm_total_more c.args.p.now c.args.q.now c.loop-i.i (omega arith) c.requires.width)

pub loop-i-preserved : goal.loop-i-preserved
loop-i-preserved c = omega (arith, lcm_total_more c.args.p.now c.args.q.now c.loop-i.i (omega arith) c.requires.width)

pub returns : goal.returns
returns c = omega (arith, lcm_total_all c.args.p.now c.args.q.now c.loop-i.i (omega arith) c.requires.width)
