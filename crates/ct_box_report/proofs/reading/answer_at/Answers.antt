use Rattle.std.proofs.Common.{◌≡◌, ℕ, ℤ, List, map, take, sym, ap, ap₂, ◌∙◌, arith}
use Rattle.ct_order.specs.Order.{cost_of, art_total_of}
use Rattle.ct_instance.specs.Instance.{column_count}
use Rattle.ct_instance.specs.Answer.{optimum}
use Rattle.ct_instance.proofs.Points.{outcome-optimum}
use Rattle.ct_box_report.proofs.reading.answer_at.Goals as goal

pub returns : goal.returns
returns c =
    let short : art_total_of c.costs.result.now.columns c.as_slice.result.now ≡ 0 = omega (arith, c.art_total-short.ensures, c.if-short-gt0.false) in
    let none : art_total_of (column_count c.args.inst.now) c.args.p.now ≡ 0 =
    ap (λ (n : ℕ). art_total_of n c.args.p.now) (sym c.costs.ensures.columns) ∙
    ap (art_total_of c.costs.result.now.columns) (sym c.as_slice.ensures.coordinates) ∙ short in
    let listed : c.costs_of-costs.result ≡ map (λ (row : List ℤ). cost_of row c.args.p.now) c.args.inst.now.cost_rows =
    c.costs_of-costs.ensures ∙ ap (λ (q : List ℕ). map (λ (row : List ℤ). cost_of row q) c.costs-2.result.now.rows) c.as_slice-2.ensures.coordinates ∙
    ap (map (λ (row : List ℤ). cost_of row c.args.p.now)) c.costs-2.ensures.rows in
    let point = c.in_ok-point.ensures ∙ ap₂ (λ (n : ℕ) (q : List ℕ). take n q) c.columns.ensures.columns c.as_slice-3.ensures.coordinates in
    ap₂ optimum point listed ∙ sym (outcome-optimum c.args.inst.now c.rows-rows.ensures.instance c.args.p.now none)
