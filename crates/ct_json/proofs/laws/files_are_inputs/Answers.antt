use Rattle.ct_json.proofs.Accepted.{json_is_instance, json_is_script}
use Rattle.ct_json.proofs.laws.files_are_inputs.Goals as goal

pub returns : goal.returns
returns c = record { instance = json_is_instance; script = json_is_script }
