use Rattle.std.proofs.Common.{◌+◌, ◌<◌, ◌^◌, ◌≡◌, [], ◌∷◌, ◌++◌, length, sym, ap, subst, ◌∙◌, arith, append_assoc, append-nil}
use Rattle.std.specs.Vec.Iter.{into_iter_items}
use Rattle.std.proofs.lemmas.List.{nil_from_length, length-append, length-map}
use Rattle.ct_serve.specs.declared.parts.Part.{Part}
use Rattle.ct_serve.specs.Served.{IsJobAt}
use Rattle.ct_serve.proofs.DealtParts.{dealt_more, dealt_scripts, more_in_order}
use Rattle.ct_serve.proofs.dealing.deal.Goals as goal

pub loop-pass-preserved : goal.loop-pass-preserved
loop-pass-preserved c =
    let is = c.loop-pass.invariant.rest ∙ ap (λ xs. c.loop-pass.yielded ++ xs) c.in-Some.ensures.steps.0 in
    let at : IsJobAt c.args.phase.now c.args.workers (length c.loop-pass.parts.items) c.job_at-job.result =
    subst (λ n. IsJobAt c.args.phase.now c.args.workers n c.job_at-job.result) (c.len-in-loop-pass.ensures ∙ c.loop-pass.parts.ok.0) c.job_at-job.ensures in
    record {
      dealt = dealt_more c.args.phase.now c.args.workers c.loop-pass.yielded c.loop-pass.parts.items _ _ c.loop-pass.invariant.dealt at c.in_ok-push.ensures.items;
      in_order = λ few. more_in_order c.args.phase.now c.args.workers c.loop-pass.who c.loop-pass.parts.items _ _ (c.loop-pass.invariant.in_order few) at
          (let count : c.loop-pass.who ≡ length c.loop-pass.parts.items = (c.loop-pass.invariant.in_order few).last_is in
          let dealt : length c.loop-pass.parts.items ≡ length c.loop-pass.yielded = sym (length-map c.loop-pass.parts.items (λ (p : Part). p.pass)) ∙ ap length (c.loop-pass.invariant.dealt).passes_are in
          let all : length c.args.passes.items ≡ length c.loop-pass.yielded + length (c.in-Some.pass ∷ into_iter_items c.next.new.self) = ap length is ∙ length-append c.loop-pass.yielded (c.in-Some.pass ∷ into_iter_items c.next.new.self) in
          let small : c.loop-pass.who + 1 < 2 ^ 32 = omega (arith, count, dealt, all, few, c.args.passes.ok.0) in
          omega (arith, small, c.saturating_add-who.ensures))
          c.in_ok-push.ensures.items;
      rest = is ∙ sym (append_assoc c.loop-pass.yielded (c.in-Some.pass ∷ []) (into_iter_items c.next.new.self));
    }

pub returns-clause-passes : goal.returns-clause-passes
returns-clause-passes c =
    let none : length (into_iter_items c.loop-pass.pass-iterator) ≡ 0 = omega (arith, c.in-None.ensures.steps.0, c.loop-pass.pass-iterator.rest.ok.0) in
    let done = c.loop-pass.invariant.rest ∙ (ap (λ xs. c.loop-pass.yielded ++ xs) (nil_from_length (into_iter_items c.loop-pass.pass-iterator) none) ∙ append-nil c.loop-pass.yielded) in
    (c.loop-pass.invariant.dealt).passes_are ∙ sym done

pub returns-clause-scripts : goal.returns-clause-scripts
returns-clause-scripts c =
    let none : length (into_iter_items c.loop-pass.pass-iterator) ≡ 0 = omega (arith, c.in-None.ensures.steps.0, c.loop-pass.pass-iterator.rest.ok.0) in
    let done = c.loop-pass.invariant.rest ∙ (ap (λ xs. c.loop-pass.yielded ++ xs) (nil_from_length (into_iter_items c.loop-pass.pass-iterator) none) ∙ append-nil c.loop-pass.yielded) in
    dealt_scripts c.args.phase.now c.args.workers c.loop-pass.yielded c.loop-pass.parts.items c.loop-pass.invariant.dealt
    (omega (arith, c.requires.enough, c.args.passes.ok.0, ap length done))

pub returns-clause-in_order : goal.returns-clause-in_order
returns-clause-in_order c = λ few. (c.loop-pass.invariant.in_order few).each
