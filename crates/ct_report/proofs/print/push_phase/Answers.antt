use Rattle.ct_report.proofs.Written.{phase_written}
use Rattle.ct_report.proofs.print.push_phase.Goals as goal

pub returns : goal.returns
returns c = rw (c.in_ok-push_level.ensures, c.in_ok-push_sessions.ensures, c.as_slice.ensures, c.in_ok-push_line.ensures) (phase_written c.args.out.now.items c.args.number c.args.phase.now)
