use Rattle.std.proofs.Common.{◌<◌, length, arith}
use Rattle.ct_report.proofs.Written.{sessions_more}
use Rattle.ct_report.proofs.print.push_sessions.Goals as goal

pub loop-i-preserved : goal.loop-i-preserved
loop-i-preserved c =
    let inside : c.loop-i.i < length c.args.sessions.now = omega arith in
    rw (c.in_ok-push_lines.ensures, c.as_slice.ensures, c.in_ok-push_line.ensures, c.loop-i.invariant) (sessions_more c.args.out.now.items c.args.sessions.now c.loop-i.i c.index-sessions-i.result inside c.index-sessions-i.is)
