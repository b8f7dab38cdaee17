use Rattle.std.proofs.Common.{◌≡◌, [], ◌∷◌, ◌++◌, length, vec_capacity, sym, ap, ◌∙◌, arith, append_assoc, append-nil}
use Rattle.std.specs.Vec.Iter.{into_iter_items}
use Rattle.std.proofs.lemmas.List.{nil_from_length}
use Rattle.turn_cell.specs.Sight.{CellSight}
use Rattle.count_lock.specs.Sight.{LockSight}
use Rattle.ct_book.specs.Books.{BookSeen}
use Rattle.ct_host.specs.Values.{PlacedVersion}
use Rattle.ct_host.proofs.Dealing.{next_lock_pass, dealing_more, dealing_room, dealing_end}
use Rattle.ct_host.proofs.opening.deal.Goals as goal

pub invariant_of-push_reserved : goal.invariant_of-push_reserved
invariant_of-push_reserved c =
    let is = c.loop-lock_pass.invariant.rest ∙ ap (λ xs. c.loop-lock_pass.yielded ++ xs) c.in-Some.ensures.steps.0 in
    let next = next_lock_pass c.args.lock.now c.loop-lock_pass.yielded (into_iter_items c.next.new.self) c.args.locks.items c.in-Some.lock_pass c.requires.locks is in
    (ap (λ (p : CellSight PlacedVersion). p.held) c.split.ensures.given, ap (λ (p : LockSight BookSeen). p.held) next, ap (λ (p : LockSight BookSeen). length p.pairs) next)

pub push_reserved-requires : goal.push_reserved-requires
push_reserved-requires c =
    let is = c.loop-lock_pass.invariant.rest ∙ ap (λ xs. c.loop-lock_pass.yielded ++ xs) c.in-Some.ensures.steps.0 in
    let room = dealing_room c.args.cell.now c.args.lock.now c.loop-lock_pass.first c.loop-lock_pass.yielded (into_iter_items c.next.new.self) c.args.locks.items c.in-Some.lock_pass c.loop-lock_pass.made.items (vec_capacity c.loop-lock_pass.made) c.loop-lock_pass.invariant.dealing is
    (omega (arith, c.args.locks.ok.0, c.loop-lock_pass.invariant.room)) in
    omega (arith, room, c.loop-lock_pass.made.ok.0)

pub loop-lock_pass-preserved : goal.loop-lock_pass-preserved
loop-lock_pass-preserved c =
    let is = c.loop-lock_pass.invariant.rest ∙ ap (λ xs. c.loop-lock_pass.yielded ++ xs) c.in-Some.ensures.steps.0 in
    let given = c.split.ensures.given in
    record {
      dealing = dealing_more c.args.cell.now c.args.lock.now c.loop-lock_pass.first c.split.new.pass c.split.result c.loop-lock_pass.yielded (into_iter_items c.next.new.self) c.args.locks.items c.in-Some.lock_pass c.loop-lock_pass.made.items c.push_reserved.new.self.items
          c.requires.locks is c.loop-lock_pass.invariant.dealing c.split.ensures.kept (ap (λ (p : CellSight PlacedVersion). p.cell) given) (ap (λ (p : CellSight PlacedVersion). p.first) given) (ap (λ (p : CellSight PlacedVersion). p.seen) given)
          (ap (λ (p : CellSight PlacedVersion). p.words) given) (ap (λ (p : CellSight PlacedVersion). p.splits) given) c.push_reserved.ensures.items;
      rest = is ∙ sym (append_assoc c.loop-lock_pass.yielded (c.in-Some.lock_pass ∷ []) (into_iter_items c.next.new.self));
      room = omega (arith, c.loop-lock_pass.invariant.room, c.push_reserved.ensures.capacity);
    }

pub returns : goal.returns
returns c =
    let none : length (into_iter_items c.loop-lock_pass.lock_pass-iterator) ≡ 0 = omega (arith, c.in-None.ensures.steps.0, c.loop-lock_pass.lock_pass-iterator.rest.ok.0) in
    let done = c.loop-lock_pass.invariant.rest ∙ (ap (λ xs. c.loop-lock_pass.yielded ++ xs) (nil_from_length (into_iter_items c.loop-lock_pass.lock_pass-iterator) none) ∙ append-nil c.loop-lock_pass.yielded) in
    dealing_end c.args.cell.now c.args.lock.now c.loop-lock_pass.first c.loop-lock_pass.yielded c.args.locks.items c.loop-lock_pass.made.items c.requires.locks done c.loop-lock_pass.invariant.dealing
