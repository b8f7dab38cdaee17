use Rattle.ct_form_report.proofs.Trimmed.{trimmed_is_legal, trimmed_is_answered}
use Rattle.ct_form_report.proofs.laws.trimmed_reports_are_legal.Goals as goal

pub returns-clause-served : goal.returns-clause-served
returns-clause-served c = trimmed_is_legal

pub returns-clause-answered : goal.returns-clause-answered
returns-clause-answered c = trimmed_is_answered
