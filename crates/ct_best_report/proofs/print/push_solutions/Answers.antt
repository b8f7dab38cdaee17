use Rattle.std.proofs.Common.{◌<◌, length, arith}
use Rattle.ct_best_report.proofs.Written.{solutions_more}
use Rattle.ct_best_report.proofs.print.push_solutions.Goals as goal

pub loop-solution-preserved : goal.loop-solution-preserved
loop-solution-preserved c =
    let inside : c.loop-solution.solution-index < length c.args.solutions.now = omega arith in
    rw (c.in_ok-push_solution.ensures, c.loop-solution.invariant) (solutions_more c.args.out.now.items c.args.solutions.now c.loop-solution.solution-index c.solution-item.result inside c.solution-item.is)
