use Rattle.ct_report.proofs.ReportMachine.{report_from_found, report_fault}
use Rattle.ct_report.proofs.reports.Report.read.Goals as goal

pub returns : goal.returns
returns c = record { ok = report_from_found c.args.bytes.now c.report_of.result c.report_of.ensures; fault = report_fault c.args.bytes.now c.report_of.result c.report_of.ensures }
