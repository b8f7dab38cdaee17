use Rattle.std.proofs.Common.{◌≡◌, ◌/◌, length, sym, ap, ◌∙◌, subst, rules}
use Rattle.ct_order.specs.Costs.{IsCostTable, rows_of}
use Rattle.ct_order.proofs.CostRows.{IsCostTable-rows_of, whole_rows}
use Rattle.ct_order.proofs.costs.Costs.new.Goals as goal

pub invariant_of-result : goal.invariant_of-result
invariant_of-result c =
    let same : c.in_ok-costs.costs.items ≡ c.args.rows.now = search rules in (
      subst (λ l. IsCostTable (record { columns = c.args.columns; rows = rows_of (length c.args.rows.now / c.args.columns) c.args.columns l })) (sym same)
          (IsCostTable-rows_of c.args.columns c.args.rows.now c.requires.some_column c.requires.column_limit c.requires.whole_rows c.requires.some_row c.requires.row_limit c.requires.limit),
      ap length same ∙ whole_rows (length c.args.rows.now) c.args.columns c.requires.whole_rows,
    )
