use Rattle.std.proofs.Common.{map, drop}
use Rattle.ct_words.specs.Said.{place_seen, places_of}
use Rattle.ct_words.proofs.Places.{Placed}
use Rattle.ct_words.proofs.said.places_in.Given as goal

abbrev pub invariant-loop-i : goal.invariant-loop-i
invariant-loop-i l =
    Placed (places_of l.wanted (map (λ word. word.now) l.words)) (map place_seen l.places.items) (drop l.i l.wanted) (map (λ word. word.now) (drop l.i l.words))
