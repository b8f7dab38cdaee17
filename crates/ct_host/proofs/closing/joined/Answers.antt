use Rattle.std.proofs.Common.{◌≡◌, [], ◌∷◌, ◌++◌, length, vec_capacity, sym, ap, ◌∙◌, arith}
use Rattle.std.specs.Vec.Iter.{into_iter_items}
use Rattle.std.proofs.lemmas.List.{nil_from_length}
use Rattle.count_lock.specs.Pairs.{first_count}
use Rattle.ct_host.proofs.Joining.{joining_start, joining_own, joining_more, joining_room, joining_end}
use Rattle.ct_host.proofs.closing.joined.Goals as goal

pub loop-pass-init : goal.loop-pass-init
loop-pass-init c =
    let gives = c.into_iter-pass-iterator.ensures.into_iter_gives in
    let left : into_iter_items c.next.new.self ≡ into_iter_items c.into_iter-pass-iterator.result = cc in
    let is : c.args.passes.items ≡ c.in-Some.first ∷ into_iter_items c.into_iter-pass-iterator.result = sym c.into_iter-rest.ensures.rest ∙ (c.in-Some.ensures.items ∙ ap (λ xs. c.in-Some.first ∷ xs) left) in
    let count : c.count.result ≡ c.in-Some.first.steps = c.count.ensures ∙ ap first_count c.into_lock-all.ensures.pairs in
    let counted : c.push_reserved.new.self.items ≡ c.in-Some.first.steps ∷ [] = c.push_reserved.ensures.items ∙ (λ i. c.requires.room.0 i ++ count i ∷ []) in
    record {
      joining = joining_start c.args.lock.now c.into_lock-all.result c.push_reserved.new.self.items c.in-Some.first (into_iter_items c.into_iter-pass-iterator.result) c.args.passes.items is c.requires.own c.into_lock-all.ensures.own.0 c.into_lock-all.ensures.own.1
          c.into_lock-all.ensures.idle c.into_lock-all.ensures.pairs counted;
      room = omega (arith, c.requires.room.1, c.push_reserved.ensures.capacity);
    }

pub push_reserved-requires-in-loop-pass : goal.push_reserved-requires-in-loop-pass
push_reserved-requires-in-loop-pass c =
    let few = joining_room c.args.lock.now c.loop-pass.all c.loop-pass.steps.items c.in-Some-pass.pass (into_iter_items c.next-in-loop-pass.new.self) (into_iter_items c.loop-pass.pass-iterator) c.args.passes.items (vec_capacity c.loop-pass.steps) c.in-Some-pass.ensures.steps.0 c.loop-pass.invariant.joining
    (omega (arith, c.args.passes.ok.0, c.loop-pass.invariant.room)) in
    omega (arith, few, c.loop-pass.steps.ok.0)

pub join-requires-clause-own : goal.join-requires-clause-own
join-requires-clause-own c =
    joining_own c.args.lock.now c.loop-pass.all c.into_lock-other.result c.loop-pass.steps.items c.in-Some-pass.pass (into_iter_items c.next-in-loop-pass.new.self) (into_iter_items c.loop-pass.pass-iterator) c.args.passes.items c.in-Some-pass.ensures.steps.0 c.loop-pass.invariant.joining
    c.into_lock-other.ensures.own.0 c.into_lock-other.ensures.own.1

pub loop-pass-preserved : goal.loop-pass-preserved
loop-pass-preserved c =
    let count : c.count-in-loop-pass.result ≡ c.in-Some-pass.pass.steps = c.count-in-loop-pass.ensures ∙ ap first_count c.into_lock-other.ensures.pairs in
    record {
      joining = joining_more c.args.lock.now c.loop-pass.all c.into_lock-other.result c.join.new.pass c.loop-pass.steps.items c.push_reserved-in-loop-pass.new.self.items c.in-Some-pass.pass (into_iter_items c.next-in-loop-pass.new.self) (into_iter_items c.loop-pass.pass-iterator)
          c.args.passes.items c.in-Some-pass.ensures.steps.0 c.loop-pass.invariant.joining c.join.ensures c.into_lock-other.ensures.pairs (c.push_reserved-in-loop-pass.ensures.items ∙ ap (λ n. c.loop-pass.steps.items ++ n ∷ []) count);
      room = omega (arith, c.loop-pass.invariant.room, c.push_reserved-in-loop-pass.ensures.capacity);
    }

pub returns : goal.returns
returns c =
    let none : length (into_iter_items c.loop-pass.pass-iterator) ≡ 0 = omega (arith, c.in-None.ensures.steps.0, c.loop-pass.pass-iterator.rest.ok.0) in
    let end = joining_end c.args.lock.now c.loop-pass.all c.loop-pass.steps.items (into_iter_items c.loop-pass.pass-iterator) c.args.passes.items (nil_from_length (into_iter_items c.loop-pass.pass-iterator) none) c.loop-pass.invariant.joining in
    record { pass = (c.loop-pass.invariant.joining.own, c.loop-pass.invariant.joining.idle); pairs = end.0; steps = end.1 }
