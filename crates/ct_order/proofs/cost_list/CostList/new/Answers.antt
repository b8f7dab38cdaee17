use Rattle.std.proofs.Common.{◌≡◌, ℤ, pos, ◌+◌, List, ◌++◌, length, drop, replicate, sym, ap, ◌∙◌, arith, rules, length-append}
use Rattle.ct_vectors.specs.declared.limits.TheConstants.{COST_ROW_LIMIT}
use Rattle.ct_order.specs.Costs.{padded}
use Rattle.ct_order.proofs.Padded.{over_zeros, take-over_zeros}
use Rattle.ct_order.proofs.cost_list.CostList.new.Goals as goal

pub invariant_of-result : goal.invariant_of-result
invariant_of-result c =
    let zeros : List ℤ = replicate COST_ROW_LIMIT (pos 0) in
    let written : c.copy_from_slice.new.self ≡ c.args.costs.now = search rules in
    let whole : c.copy_from_slice.new.self ++ drop (length c.args.costs.now) zeros ≡ padded c.args.costs.now =
    ap (λ l. l ++ drop (length c.args.costs.now) zeros) written ∙ over_zeros c.args.costs.now in
    let front = take-over_zeros c.copy_from_slice.new.self (length c.args.costs.now) (ap length (sym written)) ∙ written in
    let long : length (c.copy_from_slice.new.self ++ drop (length c.args.costs.now) zeros) ≡
    length c.copy_from_slice.new.self + length (drop (length c.args.costs.now) zeros) = length-append c.copy_from_slice.new.self (drop (length c.args.costs.now) zeros) in
    let here : length c.copy_from_slice.new.self ≡ length c.args.costs.now = ap length written in
    (c.requires.some, c.requires.limit, whole ∙ sym (ap padded front), omega arith)
