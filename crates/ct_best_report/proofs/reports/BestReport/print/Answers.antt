use Rattle.ct_best_report.proofs.Written.{text_written}
use Rattle.ct_best_report.proofs.reports.BestReport.print.Goals as goal

pub returns : goal.returns
returns c = rw (c.in_ok-extend_from_slice-2.ensures.items, c.in_ok-push_answers.ensures, c.as_slice.ensures, c.in_ok-extend_from_slice.ensures.items, c.new-out.ensures.items) (text_written c.args.self.now.answers)
