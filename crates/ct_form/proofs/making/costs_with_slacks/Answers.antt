use Rattle.std.proofs.Common.{◌≡◌, ◌+◌, ◌-◌, ◌*◌, ◌++◌, pos, take, drop, replicate, arith, ap, ap₂, ◌∙◌, rules}
use Rattle.ct_form.proofs.PaddedCosts.{padded_step}
use Rattle.ct_form.proofs.making.costs_with_slacks.Goals as goal

pub loop-row-preserved : goal.loop-row-preserved
loop-row-preserved c =
    let width : c.loop-row.row * c.args.columns + c.args.columns - c.loop-row.row * c.args.columns ≡ c.args.columns = omega arith in
    let none : c.in_ok-behind.behind.items ≡ replicate c.args.slacks (pos 0) = search rules in
    let behind : c.deref.result.now ≡ replicate c.args.slacks (pos 0) = c.deref.ensures.value ∙ none in
    let made : c.extend_from_slice-in-loop-row.new.self.items ≡ (c.loop-row.made.items ++ take c.args.columns (drop (c.loop-row.row * c.args.columns) c.args.costs.now)) ++ replicate c.args.slacks (pos 0) =
    c.in_ok-extend_from_slice-2.ensures.items ∙ ap₂ ◌++◌ (c.in_ok-extend_from_slice.ensures.items ∙
    ap (λ w. c.loop-row.made.items ++ take w (drop (c.loop-row.row * c.args.columns) c.args.costs.now)) width) behind in
    rw made (padded_step c.loop-row.made.items c.args.rows c.args.columns c.args.slacks c.loop-row.row c.args.costs.now (omega arith) ∙ c.loop-row.invariant)
