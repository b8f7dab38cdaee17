use Rattle.std.proofs.Common.{map, arith, ◌∙◌}
use Rattle.std.proofs.lemmas.List.{length-map, map-append}
use Rattle.ct_words.specs.Said.{place_seen}
use Rattle.ct_words.proofs.Places.{other_length, placed_none, placed_one, placed_at, placed_end}
use Rattle.ct_words.proofs.said.places_in.Goals as goal

pub returns-then-wanted-words : goal.returns-then-wanted-words
returns-then-wanted-words c = other_length c.args.wanted.now (map (λ word. word.now) c.args.words.now) (λ same. c.if-wanted-words.true (same ∙ length-map c.args.words.now (λ word. word.now)))

pub returns-in-None : goal.returns-in-None
returns-in-None c =
    placed_none _ _ _ _ _ _ c.in-None.ensures
    (placed_at _ _ c.args.wanted.now c.args.words.now c.loop-i.i _ _ (omega arith) (omega arith) c.loop-i.invariant)

pub loop-i-preserved : goal.loop-i-preserved
loop-i-preserved c =
    rw (c.in_ok-push-in-Some.ensures.items, map-append)
    (placed_one _ _ _ _ _ _ (place_seen c.in-Some.place) c.in-Some.ensures
    (placed_at _ _ c.args.wanted.now c.args.words.now c.loop-i.i _ _ (omega arith) (omega arith) c.loop-i.invariant))

pub returns : goal.returns
returns c = placed_end _ _ c.args.wanted.now c.args.words.now c.loop-i.i (omega arith) (omega arith) c.loop-i.invariant
