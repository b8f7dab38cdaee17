use Rattle.ct_form.proofs.Plain.{plain_is_itself}
use Rattle.ct_form.proofs.laws.plain_form_is_itself.Goals as goal

pub returns : goal.returns
returns c = plain_is_itself
