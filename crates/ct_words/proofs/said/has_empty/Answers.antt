use Rattle.std.proofs.Common.{◌==◌, length, string_bytes, ◌∙◌}
use Rattle.ct_words.proofs.Loops.{any_seen}
use Rattle.ct_words.proofs.said.has_empty.Goals as goal

pub returns : goal.returns
returns c = c.has_one_empty.ensures ∙ any_seen string_bytes (λ word. length word == 0) c.args.words.now
