use Rattle.std.proofs.Common.{rules, ◌≡◌, ℕ, ◌∷◌, [], None, sym, ap, ◌∙◌, subst, length, slice_index, drop}
use Rattle.count_lock.specs.Pairs.{GrowsAt, first_number}
use Rattle.count_lock.specs.Sight.{LockSight}
use Rattle.count_lock.specs.Told.{carried_with, Fits, sight_of}
use Rattle.count_lock.proofs.Released.{some_and, freed, unlocked}
use Rattle.count_lock.proofs.lock.CountLock.unlock.Goals as goal

pub release-requires-clause-in_hand : goal.release-requires-clause-in_hand
release-requires-clause-in_hand g c = let counts = g.V.Counted.counts_of c.args.value in let holds = some_and c.args.pass.now.held (λ held. GrowsAt (first_number c.args.pass.now.pairs) held counts) c.requires.counts in
    let now = c.exchange_in.ensures.after in
    let same : c.exchange_in.new.seat.me.0.pairs ≡ c.args.pass.now.pairs = ap (λ m. m.0.pairs) now ∙ ap (λ p. p.pairs) c.pass.view_is in (
      c.args.value,
      ap (λ m. m.1) now,
      search rules,
      (holds.0, ap (λ m. m.0.held) now ∙ (ap (λ p. p.held) c.pass.view_is ∙ holds.1), subst (λ l. GrowsAt (first_number l) holds.0 counts) (sym same) holds.2),
    )

pub invariant_of-pass : goal.invariant_of-pass
invariant_of-pass g c = let n : ℕ = c.pass.inside.number in
    let after = unlocked g.V.Counted.counts_of c.pass.inside.seat.me c.exchange_in.new.seat.me c.release.new.seat.me n c.pass.inside.count c.args.value c.pass.invariant.2
    (ap (λ p. length p.pairs) c.pass.view_is ∙ c.requires.one_pair) c.exchange_in.ensures.after c.release.ensures.after in
    let fits : Fits None n = tt in (
      ap (λ m. m.0.spent) after ∙ c.pass.invariant.0,
      ap (λ m. m.1) after ∙ sym (ap (λ m. carried_with m.0.held) after),
      ap (λ m. m.0.pairs) after ∙ (ap (λ k. (n, k) ∷ []) (sym c.count-pass-inside.ensures) ∙ ap (λ l. (n, c.count-pass-inside.result) ∷ drop 1 l) (sym (ap (λ m. m.0.pairs) after))),
      subst (λ h. Fits h n) (sym (ap (λ m. m.0.held) after)) fits,
    )

pub returns : goal.returns
returns g c = let counts = g.V.Counted.counts_of c.args.value in let n : ℕ = c.pass.inside.number in
    let after = unlocked g.V.Counted.counts_of c.pass.inside.seat.me c.exchange_in.new.seat.me c.release.new.seat.me n c.pass.inside.count c.args.value c.pass.invariant.2
    (ap (λ p. length p.pairs) c.pass.view_is ∙ c.requires.one_pair) c.exchange_in.ensures.after c.release.ensures.after in
    let lock : c.release.new.seat.table_id ≡ c.pass.inside.seat.table_id = search rules in let number : n ≡ first_number c.pass.inside.seat.me.0.pairs = sym (ap first_number c.pass.invariant.2) in
    let given : LockSight g.row.V.Denot → LockSight g.row.V.Denot = λ p. record p { pairs = (first_number p.pairs, slice_index counts (first_number p.pairs)) ∷ []; held = None } in
    (λ i. sight_of (lock i) ((after i).0)) ∙ (ap (λ k. sight_of c.pass.inside.seat.table_id (freed c.pass.inside.seat.me.0 k (slice_index counts k))) number
    ∙ ap given c.pass.view_is)
