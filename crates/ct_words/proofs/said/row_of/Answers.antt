use Rattle.std.proofs.Common.{option_map, ap, ◌∙◌}
use Rattle.std.specs.Str.{bytes_eq}
use Rattle.ct_words.specs.Table.{command_seen}
use Rattle.ct_words.proofs.Loops.{find_seen}
use Rattle.ct_words.proofs.said.row_of.Goals as goal

pub returns : goal.returns
returns c = ap (option_map command_seen) c.first_named.ensures ∙ find_seen command_seen (λ row. bytes_eq row.name c.args.name.now) c.args.table.now
