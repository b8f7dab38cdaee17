use Rattle.std.proofs.Common.{length, sym, ap, ◌∙◌}
use Rattle.ct_order.proofs.CostRows.{length-rows_of}
use Rattle.ct_order.proofs.costs.Costs.row_count.Goals as goal

pub returns-clause-rows : goal.returns-clause-rows
returns-clause-rows c =
    sym (length-rows_of c.self.inside.count c.self.inside.columns c.self.inside.costs.items) ∙ ap (λ t. length t.rows) c.self.view_is
