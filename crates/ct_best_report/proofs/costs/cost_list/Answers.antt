use Rattle.std.proofs.Common.{◌≡◌, ◌+◌, ◌++◌, ◌≤◌, ℕ, ℤ, List, map, take, drop, replicate, All, sym, subst, ap, ap₂, ◌∙◌}
use Rattle.ct_vectors.specs.declared.limits.TheConstants.{JOB_GRADE_LIMIT}
use Rattle.ct_order.specs.Order.{cost_of}
use Rattle.ct_instance.specs.Instance.{column_count}
use Rattle.ct_best_report.proofs.Paired.{padded_costs, padded_small}
use Rattle.ct_best_report.proofs.costs.cost_list.Goals as goal

pub costs_of-requires-clause-limit : goal.costs_of-requires-clause-limit
costs_of-requires-clause-limit c =
    padded_small c.columns-n.result c.copy_from_slice.new.self
    (subst (λ (x : List ℕ). All (λ a. a ≤ JOB_GRADE_LIMIT) x) (sym (c.copy_from_slice.ensures.after ∙ c.as_slice.ensures.coordinates)) c.requires.limit) (c.columns-n.result + 1)

pub returns : goal.returns
returns c =
    let same : c.copy_from_slice.new.self ≡ c.args.x.now = c.copy_from_slice.ensures.after ∙ c.as_slice.ensures.coordinates in
    c.costs_of.ensures ∙
    ap₂ (λ (n : ℕ) (rows : List (List ℤ)). map (λ row. cost_of row (take (n + 1) (c.copy_from_slice.new.self ++ drop c.columns-n.result (replicate 80 0)))) rows) c.columns-n.ensures.columns c.costs.ensures.rows ∙
    ap (λ (x : List ℕ). map (λ row. cost_of row (take (column_count c.args.inst.now + 1) (x ++ drop c.columns-n.result (replicate 80 0)))) c.args.inst.now.cost_rows) same ∙
    padded_costs c.args.inst.now c.columns-n.ensures.instance c.args.x.now (drop c.columns-n.result (replicate 80 0)) c.requires.numbers
