use Rattle.std.proofs.Common.{◌≡◌, ℕ, ℤ, List, [], ◌∷◌, true, nat_eq, length, take, map, All, sym, ap, ap₂, ◌∙◌, subst, refl, arith, eq-eqb}
use Rattle.std.proofs.lemmas.List.Elements.{All-head, All-tail}
use Rattle.ct_order.specs.Order.{cost_of, art_total_of}
use Rattle.ct_order.specs.Costs.{IsCostRow}
use Rattle.ct_instance.specs.Instance.{Problem, IsInstance, column_count}
use Rattle.ct_instance.specs.Answer.{outcome_of, optimum}
use Rattle.ct_instance.proofs.Points.{outcome-optimum}
use Rattle.ct_version.specs.Answers.{kind_of}
use Rattle.ct_version.specs.declared.answers.AnswerKind.TheVariants.{Optimum}
use Rattle.ct_version.proofs.readings.kind_at.Goals as goal

pub returns : goal.returns
returns c =
    let short : art_total_of c.costs.result.now.columns c.as_slice.result.now ≡ 0 = omega (arith, c.art_total-short.ensures, c.if-short-gt0.false) in
    let none : art_total_of (column_count c.args.inst.now) c.args.p.now ≡ 0 =
    ap (λ (n : ℕ). art_total_of n c.args.p.now) (sym c.costs.ensures.columns) ∙
    ap (art_total_of c.costs.result.now.columns) (sym c.as_slice.ensures.coordinates) ∙ short in
    let listed : c.costs_of.result ≡ map (λ (row : List ℤ). cost_of row c.args.p.now) c.args.inst.now.cost_rows =
    c.costs_of.ensures ∙ ap (λ (q : List ℕ). map (λ (row : List ℤ). cost_of row q) c.costs-2.result.now.rows) c.as_slice-2.ensures.coordinates ∙
    ap (map (λ (row : List ℤ). cost_of row c.args.p.now)) c.costs-2.ensures.rows in
    ap Optimum listed ∙ sym (ap kind_of (outcome-optimum c.args.inst.now c.rows-rows.ensures.instance c.args.p.now none))
