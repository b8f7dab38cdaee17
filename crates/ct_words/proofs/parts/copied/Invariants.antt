use Rattle.std.proofs.Common.{◌≡◌, map, take}
use Rattle.ct_words.proofs.parts.copied.Given as goal

abbrev pub invariant-loop-word : goal.invariant-loop-word
invariant-loop-word l = map (λ word. word.now) l.copy.items ≡ map (λ word. word.now) (take l.word-index l.words)
