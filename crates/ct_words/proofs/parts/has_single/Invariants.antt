use Rattle.std.proofs.Common.{◌≡◌, map, drop, string_bytes}
use Rattle.ct_words.specs.Items.{has_single}
use Rattle.ct_words.proofs.parts.has_single.Given as goal

abbrev pub invariant-loop-word : goal.invariant-loop-word
invariant-loop-word l = has_single (map string_bytes l.words) ≡ has_single (map string_bytes (drop l.word-index l.words))
