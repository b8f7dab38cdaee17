use Rattle.ct_form_report.proofs.Trimmed.{widened_with_solves}
use Rattle.ct_form_report.proofs.Widened.{widened_is_script}
use Rattle.ct_form_report.proofs.laws.widened_scripts_are_scripts.Goals as goal

pub returns-clause-script : goal.returns-clause-script
returns-clause-script c = widened_is_script

pub returns-clause-solves : goal.returns-clause-solves
returns-clause-solves c = widened_with_solves
