use Rattle.std.proofs.Common.{◌≡◌, [], ◌∷◌, ◌++◌, length, sym, ap, subst, ◌∙◌, arith, append_assoc, append-nil}
use Rattle.std.specs.Vec.Iter.{into_iter_items}
use Rattle.std.proofs.lemmas.List.{nil_from_length, length-append}
use Rattle.ct_serve.specs.Served.{AreCollected}
use Rattle.ct_serve.proofs.CollectedParts.{collected_more}
use Rattle.ct_serve.proofs.collecting.collect.Goals as goal

pub loop-done-preserved : goal.loop-done-preserved
loop-done-preserved c =
    let is = c.loop-done.invariant.rest ∙ ap (λ xs. c.loop-done.yielded ++ xs) c.in-Some.ensures.steps.0 in
    record {
      collected = collected_more c.loop-done.yielded c.loop-done.passes.items _ c.loop-done.told.items _ c.in-Some.done c.in_ok-pass.field-0 c.in_ok-pass.was c.loop-done.invariant.collected c.in_ok-push.ensures.items c.in_ok-tell.ensures;
      count = omega (arith, c.loop-done.invariant.count, c.in_ok-push.ensures.len, length-append c.loop-done.yielded (c.in-Some.done ∷ []));
      rest = is ∙ sym (append_assoc c.loop-done.yielded (c.in-Some.done ∷ []) (into_iter_items c.next.new.self));
    }

pub returns-clause-collected : goal.returns-clause-collected
returns-clause-collected c =
    let none : length (into_iter_items c.loop-done.done-iterator) ≡ 0 = omega (arith, c.in-None.ensures.steps.0, c.loop-done.done-iterator.rest.ok.0) in
    let done = c.loop-done.invariant.rest ∙ (ap (λ xs. c.loop-done.yielded ++ xs) (nil_from_length (into_iter_items c.loop-done.done-iterator) none) ∙ append-nil c.loop-done.yielded) in
    subst (λ ds. AreCollected ds c.loop-done.passes.items c.from_vec.result) (sym done)
    (subst (AreCollected c.loop-done.yielded c.loop-done.passes.items) (sym c.from_vec.ensures) c.loop-done.invariant.collected)
