use Rattle.ct_promise.proofs.Inputs.{file_is_form, file_is_script}
use Rattle.ct_promise.proofs.laws.files_are_inputs.Goals as goal

pub returns : goal.returns
returns c = record { form = file_is_form; script = file_is_script }
