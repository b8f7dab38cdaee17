use Rattle.std.proofs.Common.{◌≡◌, map, take}
use Rattle.clap.specs.Words.{app_of}
use Rattle.ct_words.specs.Table.{option_seen}
use Rattle.ct_words.specs.Command.{row_app}
use Rattle.ct_words.proofs.command.command_of.Given as goal

abbrev pub invariant-loop-option : goal.invariant-loop-option
invariant-loop-option l = app_of l.command ≡ row_app l.row.name.now (map option_seen (take l.option-index l.option-items))
