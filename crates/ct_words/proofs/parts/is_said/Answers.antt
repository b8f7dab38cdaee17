use Rattle.std.proofs.Common.{ap, ◌∙◌}
use Rattle.clap.specs.Words.{found_of}
use Rattle.ct_words.specs.Reading.{is_command_line}
use Rattle.ct_words.proofs.Found.{source_found}
use Rattle.ct_words.proofs.parts.is_said.Goals as goal

pub returns : goal.returns
returns c = c.is_command_line.ensures ∙ ap is_command_line (c.value_source.ensures ∙ source_found (found_of c.args.matches.now) c.args.id.now)
