use Rattle.ct_run.proofs.ReportLimits.{plain_can_be_told, form_can_be_told, served_is_read, answered_is_read}
use Rattle.ct_run.proofs.laws.legal_reports_are_read.Goals as goal

pub returns-clause-instances : goal.returns-clause-instances
returns-clause-instances c = plain_can_be_told

pub returns-clause-forms : goal.returns-clause-forms
returns-clause-forms c = form_can_be_told

pub returns-clause-served : goal.returns-clause-served
returns-clause-served c = served_is_read

pub returns-clause-answered : goal.returns-clause-answered
returns-clause-answered c = answered_is_read
