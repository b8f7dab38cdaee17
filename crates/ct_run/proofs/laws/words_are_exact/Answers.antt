use Rattle.ct_run.proofs.Told.{no_command, no_command_back}
use Rattle.ct_run.proofs.laws.words_are_exact.Goals as goal

pub returns : goal.returns
returns c = λ words. (no_command words, no_command_back words)
