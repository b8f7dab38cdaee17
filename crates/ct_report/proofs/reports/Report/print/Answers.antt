use Rattle.ct_report.proofs.Written.{report_written}
use Rattle.ct_report.proofs.reports.Report.print.Goals as goal

pub returns : goal.returns
returns c = rw (c.in_ok-extend_from_slice-2.ensures.items, c.in_ok-push_phases.ensures, c.as_slice.ensures, c.in_ok-extend_from_slice.ensures.items, c.new-out.ensures.items) (report_written c.args.self.now)
