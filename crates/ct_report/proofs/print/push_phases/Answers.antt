use Rattle.std.proofs.Common.{◌<◌, length, arith}
use Rattle.ct_report.proofs.Written.{phases_more}
use Rattle.ct_report.proofs.print.push_phases.Goals as goal

pub loop-i-preserved : goal.loop-i-preserved
loop-i-preserved c =
    let inside : c.loop-i.i < length c.args.phases.now = omega arith in
    rw (c.in_ok-push_phase.ensures, c.loop-i.invariant) (phases_more c.args.out.now.items c.args.phases.now c.loop-i.i c.index-phases-i.result inside c.index-phases-i.is)
