use Rattle.std.proofs.Common.{ap, map, ◌∙◌}
use Rattle.clap.specs.Words.{found_of}
use Rattle.ct_words.specs.Table.{option_seen}
use Rattle.ct_words.specs.Items.{given_by}
use Rattle.ct_words.proofs.Found.{first_found}
use Rattle.ct_words.proofs.parts.option_given.Goals as goal

pub returns : goal.returns
returns c = c.given_by.ensures ∙ ap (given_by (map option_seen c.args.rows.now) c.args.id.now) (c.get_str.ensures ∙ first_found (found_of c.args.matches.now) c.args.id.now)
