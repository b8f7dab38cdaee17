use Rattle.ct_input.proofs.Accepted.{text_is_instance, text_is_script}
use Rattle.ct_input.proofs.laws.texts_are_inputs.Goals as goal

pub returns : goal.returns
returns c = record { instance = text_is_instance; script = text_is_script }
