use Rattle.std.proofs.Common.{refl, ap, ◌∙◌}
use Rattle.std.proofs.lemmas.List.{drop-drop}
use Rattle.ct_input.specs.Grammar.{after_next}
use Rattle.ct_input.proofs.reader.Reader.skip.Goals as goal

pub loop-preserved : goal.loop-preserved
loop-preserved c = c.advance.ensures ∙ ap after_next c.loop.invariant ∙ rw drop-drop refl
