use Rattle.ct_form_text.proofs.Accepted.{text_is_form}
use Rattle.ct_form_text.proofs.PlainTexts.{instance_text_is_plain}
use Rattle.ct_form_text.proofs.laws.texts_are_forms.Goals as goal

pub returns-clause-form : goal.returns-clause-form
returns-clause-form c = text_is_form

pub returns-clause-plain : goal.returns-clause-plain
returns-clause-plain c = instance_text_is_plain
