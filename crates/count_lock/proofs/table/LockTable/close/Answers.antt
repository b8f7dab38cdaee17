use Rattle.std.proofs.Common.{rules, ◌≡◌, ◌∙◌, sym, subst, ap, Some}
use Rattle.count_lock.specs.Pairs.{Agree}
use Rattle.count_lock.proofs.Steps.{closed_value}
use Rattle.count_lock.proofs.table.LockTable.close.Goals as goal

pub unreachable-requires : goal.unreachable-requires
unreachable-requires g c = let home = closed_value _ _ g.V.Counted.shows _ _ _ _ _ _ _ c.close_with-closed.ensures.values.2 c.take-home.ensures.value (search rules) (search rules) (search rules) in
    c.in_default.not-Some home.0 home.1

pub returns : goal.returns
returns g c = let home = closed_value _ _ g.V.Counted.shows _ _ _ _ _ _ _ c.close_with-closed.ensures.values.2 c.take-home.ensures.value (search rules) (search rules) (search rules) in
    let out : Some home.0 ≡ Some c.in-Some.value = sym home.1 ∙ c.in-Some.is in let same : home.0 ≡ c.in-Some.value = cc in record {
      counts = subst (λ v. Agree (g.V.Counted.counts_of v) c.args.seat.me.0.pairs) same (subst (λ s. Agree (g.V.Counted.counts_of home.0) s.me.0.pairs) c.seat.view_is home.2);
      name = ap g.V.Counted.name_of (sym same) ∙ (home.3 ∙ ap (λ p. g.V.Counted.name_of p.first) c.self.view_is);
    }
