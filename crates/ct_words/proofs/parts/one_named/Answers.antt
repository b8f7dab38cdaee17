use Rattle.std.proofs.Common.{option_map, ap, ◌∙◌}
use Rattle.std.specs.Str.{bytes_eq}
use Rattle.ct_words.specs.Role.{given_seen}
use Rattle.ct_words.proofs.Loops.{find_seen}
use Rattle.ct_words.proofs.parts.one_named.Goals as goal

pub returns : goal.returns
returns c = ap (option_map given_seen) c.first_named.ensures ∙ find_seen given_seen (λ one. bytes_eq one.name c.args.name.now) c.args.given.now
