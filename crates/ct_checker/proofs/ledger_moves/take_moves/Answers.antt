use Rattle.std.proofs.Common.{ℕ, ◌+◌, Option, map, drop, get_or, ◌≡◌, sym, subst, ap, ◌∙◌}
use Rattle.std.specs.Arc.{arc_value}
use Rattle.std.specs.Option.{option_or, option_map}
use Rattle.std.proofs.lemmas.Result.{err_from_is_err_and}
use Rattle.ct_instance.specs.Instance.{Problem}
use Rattle.ct_checker.specs.declared.verdicts.Reason.{Reason}
use Rattle.ct_checker.specs.Refusals.{move_reason, refused_move}
use Rattle.ct_checker.specs.Checking.{as_move, IsRefusedBy}
use Rattle.ct_checker.proofs.Taking.{move_left, refused_first}
use Rattle.ct_checker.proofs.ledger_moves.take_moves.Goals as goal

pub returns-in_err-mv-clause-refused : goal.returns-in_err-mv-clause-refused
returns-in_err-mv-clause-refused c =
    let p = err_from_is_err_and c.from_residual-in_err-mv.result c.from_residual-in_err-mv.ensures.1 in
    let i = arc_value c.args.inst.now in
    let g : ℕ = c.args.grade in
    let k : ℕ = c.loop-k.k in
    let here = c.index-pairs-k.result in
    let reason : Problem → Option (ℕ × Reason) = λ j. option_map {U = ℕ × Reason} (λ r. (4 + k, r)) (move_reason j g (as_move here)) in
    let left = refused_move i g (4 + k + 1) (map as_move (drop (k + 1) c.args.pairs.now)) in
    let refused : IsRefusedBy (reason i) c.in_err-mv.field-0.0 = subst (λ j. IsRefusedBy (reason j) c.in_err-mv.field-0.0) c.deref.ensures c.in_err-mv.ensures.refused in
    let same : get_or c.args.pairs.now k here ≡ here = sym c.index-pairs-k.is in
    rw (p.1, p.2)
    (refused_first (reason i) left (refused_move i g 4 (map as_move c.args.pairs.now)) c.in_err-mv.field-0.0 refused
    (c.loop-k.invariant.left ∙ move_left i g c.args.pairs.now k here c.loop-k-test.true ∙
    ap (λ x. option_or (option_map {U = ℕ × Reason} (λ r. (4 + k, r)) (move_reason i g (as_move x))) left) same))
