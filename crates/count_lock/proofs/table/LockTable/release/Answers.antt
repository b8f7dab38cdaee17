use Rattle.std.proofs.Common.{rules, sym, subst}
use Rattle.count_lock.specs.Pairs.{GrowsAt, first_number}
use Rattle.count_lock.proofs.Steps.{releases_lock}
use Rattle.count_lock.proofs.table.LockTable.release.Goals as goal

pub swap-requires : goal.swap-requires
swap-requires g c = let hand = c.requires.in_hand in let held = hand.3 in (
  search rules,
  search rules,
  releases_lock _ _ g.V.Counted.shows _ _ _ _ _ _ held.0 hand.0 (search rules) (search rules) (search rules) (search rules)
      (subst (λ s. GrowsAt (first_number s.me.0.pairs) held.0 (g.V.Counted.counts_of hand.0)) (sym c.seat.view_is) held.2) (search rules),
)
