use Rattle.ct_run.proofs.ToldForms.{plain_form_case}
use Rattle.ct_run.proofs.laws.plain_forms_are_instances.Goals as goal

pub returns : goal.returns
returns c = plain_form_case
