use Rattle.std.proofs.Common.{◌<◌, length, arith}
use Rattle.ct_report.proofs.Written.{lines_more}
use Rattle.ct_report.proofs.print.push_lines.Goals as goal

pub loop-line-preserved : goal.loop-line-preserved
loop-line-preserved c =
    let inside : c.loop-line.line-index < length c.args.lines.now = omega arith in
    rw (c.in_ok-push_told.ensures, c.loop-line.invariant) (lines_more c.args.out.now.items c.args.lines.now c.loop-line.line-index c.line-item.result inside c.line-item.is)
