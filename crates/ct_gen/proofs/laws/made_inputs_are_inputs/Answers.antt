use Rattle.ct_gen.proofs.MadeInputs.{made_is_instance, made_is_script}
use Rattle.ct_gen.proofs.laws.made_inputs_are_inputs.Goals as goal

pub returns : goal.returns
returns c = record { instance = made_is_instance; script = made_is_script }
