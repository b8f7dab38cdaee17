use Rattle.ct_promise.proofs.Inputs.{served_file_is_read, answered_file_is_read}
use Rattle.ct_promise.proofs.laws.reports_of_files_are_read.Goals as goal

pub returns : goal.returns
returns c = record { served = served_file_is_read; answered = answered_file_is_read }
