use Rattle.ct_lines.proofs.Machines.{no_prefix}
use Rattle.ct_report.proofs.ReportMachine.{report_machine}
use Rattle.ct_report.proofs.laws.no_report_text_is_a_prefix.Goals as goal

pub returns : goal.returns
returns c text rest is longer = no_prefix report_machine text rest is longer
