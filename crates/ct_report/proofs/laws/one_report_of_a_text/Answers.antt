use Rattle.ct_report.proofs.ReportMachine.{one_report}
use Rattle.ct_report.proofs.laws.one_report_of_a_text.Goals as goal

pub returns : goal.returns
returns c = one_report
