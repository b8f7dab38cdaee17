use Rattle.std.proofs.Common.{◌≡◌, ℕ, ℤ, List, ◌+◌, ◌-◌, ◌*◌, ◌≤◌, ◌<◌, [], length, take, drop, get_or, All, sym, ap, ◌∙◌, subst, arith, nat_abs}
use Rattle.ct_vectors.specs.declared.limits.TheConstants.{COST_LIMIT}
use Rattle.ct_order.specs.Costs.{rows_of, IsCostRow}
use Rattle.ct_order.proofs.CostRows.{length-rows_of, get_or-rows_of, row_end}
use Rattle.ct_order.proofs.costs.Costs.row.Goals as goal

pub slice_bounds-result-end : goal.slice_bounds-result-end
slice_bounds-result-end c =
    let count : length (rows_of c.self.inside.count c.self.inside.columns c.self.inside.costs.items) ≡ c.self.inside.count = length-rows_of c.self.inside.count c.self.inside.columns c.self.inside.costs.items in
    let seen : length (rows_of c.self.inside.count c.self.inside.columns c.self.inside.costs.items) ≡ length c.args.self.now.rows = ap (λ t. length t.rows) c.self.view_is in
    let within : (c.args.row - 1) * c.self.inside.columns + c.self.inside.columns ≤ c.self.inside.count * c.self.inside.columns = row_end c.self.inside.count c.self.inside.columns (c.args.row - 1) (omega arith) in
    let long : length c.self.inside.costs.items ≡ c.self.inside.count * c.self.inside.columns = c.self.invariant.1 in
    let here : length c.deref.result.now ≡ length c.self.inside.costs.items = ap length c.deref.ensures.value in
    omega arith

pub returns-clause-row : goal.returns-clause-row
returns-clause-row c =
    let k : ℕ = c.args.row - 1 in
    let count : length (rows_of c.self.inside.count c.self.inside.columns c.self.inside.costs.items) ≡ c.self.inside.count = length-rows_of c.self.inside.count c.self.inside.columns c.self.inside.costs.items in
    let seen : length (rows_of c.self.inside.count c.self.inside.columns c.self.inside.costs.items) ≡ length c.args.self.now.rows = ap (λ t. length t.rows) c.self.view_is in
    let in-rows : k < c.self.inside.count = omega arith in
    let part : k * c.self.inside.columns + c.self.inside.columns - k * c.self.inside.columns ≡ c.self.inside.columns = omega arith in
    ap (λ n. take n (drop (k * c.self.inside.columns) c.deref.result.now)) part ∙
    ap (λ l. take c.self.inside.columns (drop (k * c.self.inside.columns) l)) c.deref.ensures.value ∙
    sym (get_or-rows_of c.self.inside.count c.self.inside.columns c.self.inside.costs.items k in-rows) ∙ ap (λ t. get_or t.rows k []) c.self.view_is

pub returns-clause-cost_limit : goal.returns-clause-cost_limit
returns-clause-cost_limit c =
    let k : ℕ = c.args.row - 1 in
    let rows : List (List ℤ) = rows_of c.self.inside.count c.self.inside.columns c.self.inside.costs.items in
    let count : length rows ≡ c.self.inside.count = length-rows_of c.self.inside.count c.self.inside.columns c.self.inside.costs.items in
    let seen : length rows ≡ length c.args.self.now.rows = ap (λ t. length t.rows) c.self.view_is in
    let in-rows : k < c.self.inside.count = omega arith in
    let row : IsCostRow c.self.inside.columns (get_or rows k []) = c.self.invariant.0.is_row k [] (omega arith) in
    let part : k * c.self.inside.columns + c.self.inside.columns - k * c.self.inside.columns ≡ c.self.inside.columns = omega arith in
    let same : get_or rows k [] ≡ take (k * c.self.inside.columns + c.self.inside.columns - k * c.self.inside.columns) (drop (k * c.self.inside.columns) c.deref.result.now) =
    get_or-rows_of c.self.inside.count c.self.inside.columns c.self.inside.costs.items k in-rows ∙
    ap (λ l. take c.self.inside.columns (drop (k * c.self.inside.columns) l)) (sym c.deref.ensures.value) ∙
    ap (λ n. take n (drop (k * c.self.inside.columns) c.deref.result.now)) (sym part) in
    subst (λ l. All (λ x. nat_abs x ≤ COST_LIMIT) l) same row.limit
