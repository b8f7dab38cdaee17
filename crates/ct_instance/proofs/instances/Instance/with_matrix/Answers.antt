use Rattle.std.proofs.Common.{◌≡◌, ℕ, ◌*◌, ◌/◌, ◌≤◌, All, map, length, sym, ap, ◌∙◌, subst, rules}
use Rattle.std.proofs.lemmas.List.Elements.{All-map}
use Rattle.ct_vectors.specs.Vectors.{total}
use Rattle.ct_vectors.specs.declared.limits.TheConstants.{ROW_LIMIT, COST_ROW_LIMIT, ENTRY_LIMIT}
use Rattle.ct_order.specs.Costs.{rows_of, IsCostRow}
use Rattle.ct_order.proofs.CostRows.{IsCostTable-rows_of}
use Rattle.ct_instance.proofs.Entries.{IsColumn-total}
use Rattle.ct_instance.proofs.instances.Instance.with_matrix.Goals as goal

pub invariant_of-result : goal.invariant_of-result
invariant_of-result c =
    let columns : ℕ = length c.args.columns.items in
    let len : c.len.result ≡ columns = search rules in
    let count : c.in_ok-costs.costs.columns ≡ columns = ap (λ t. t.columns) c.in_ok-costs.ensures ∙ len in
    let few : All (λ k. total k ≤ ROW_LIMIT * ENTRY_LIMIT) c.args.columns.items = IsColumn-total c.args.rows c.args.columns.items c.requires.row_limit c.requires.are_columns in
    let same : c.args.sums.items ≡ map total c.args.columns.items = c.requires.sums_of_columns in
    let table = IsCostTable-rows_of columns c.args.cost.now c.requires.some_column c.requires.column_limit c.requires.whole_rows c.requires.some_cost_row c.requires.cost_row_limit c.requires.cost_limit in
    let rows : rows_of (length c.args.cost.now / columns) columns c.args.cost.now ≡ c.in_ok-costs.costs.rows =
    ap (λ n. rows_of (length c.args.cost.now / n) n c.args.cost.now) (sym len) ∙ sym (ap (λ t. t.rows) c.in_ok-costs.ensures) in
    record {
      instance = record {
        some_row = c.requires.some_row;
        row_limit = c.requires.row_limit;
        some_column = c.requires.some_column;
        column_limit = c.requires.column_limit;
        is_column = c.requires.are_columns;
        some_cost_row = subst (λ l. 1 ≤ length l) rows table.some_row;
        cost_row_limit = subst (λ l. length l ≤ COST_ROW_LIMIT) rows table.row_limit;
        is_cost_row = subst (λ l. All (IsCostRow columns) l) rows table.is_row;
      };
      sums_of_columns = same;
      sum_limit = subst (λ l. All (λ k. k ≤ ROW_LIMIT * ENTRY_LIMIT) l) (sym same) (All-map (λ k. k ≤ ROW_LIMIT * ENTRY_LIMIT) total c.args.columns.items few);
      cost_columns_are = count;
    }
