use Rattle.std.proofs.Common.{map, string_bytes, option_map, sym, ap, ◌∙◌}
use Rattle.ct_words.specs.Said.{seen as said_seen}
use Rattle.ct_run.proofs.Within.{said-within}
use Rattle.ct_run.proofs.words.command_in.Goals as goal

pub command_said-requires : goal.command_said-requires
command_said-requires c =
    said-within (map string_bytes c.args.words.now) (said_seen c.in-Some.said) (sym c.in_ok-said.ensures ∙ ap (option_map said_seen) c.in-Some.is)
