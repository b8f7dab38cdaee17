use Rattle.std.proofs.Common.{◌∙◌}
use Rattle.std.specs.Str.{bytes_eq}
use Rattle.ct_words.specs.Role.{given_seen}
use Rattle.ct_words.proofs.Loops.{any_seen}
use Rattle.ct_words.proofs.parts.is_named.Goals as goal

pub returns : goal.returns
returns c = c.has_one_named.ensures ∙ any_seen given_seen (λ one. bytes_eq one.name c.args.name.now) c.args.given.now
