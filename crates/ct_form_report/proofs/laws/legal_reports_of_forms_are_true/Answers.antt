use Rattle.ct_form_report.proofs.FormHeadline.{served_of_form_is_true, answered_of_form_is_true}
use Rattle.ct_form_report.proofs.laws.legal_reports_of_forms_are_true.Goals as goal

pub returns-clause-served : goal.returns-clause-served
returns-clause-served c = served_of_form_is_true

pub returns-clause-answered : goal.returns-clause-answered
returns-clause-answered c = answered_of_form_is_true
