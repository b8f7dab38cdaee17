use Rattle.std.proofs.Common.{◌≡◌, ℕ, refl, sym, ap, subst, ◌∙◌}
use Rattle.std.specs.Arc.{arc_value}
use Rattle.ct_instance.specs.Instance.{Problem, IsInstance}
use Rattle.ct_input.specs.Script.{IsScript}
use Rattle.ct_gen.specs.declared.tally.Tally.{Tally}
use Rattle.ct_gen.specs.Made.{made_instance}
use Rattle.ct_gen.specs.Tallies.{summary_of}
use Rattle.ct_gen.specs.SummaryText.{summary_text}
use Rattle.ct_run.proofs.Summaries.{made_legal, made_extent, made_lines, made_costs}
use Rattle.ct_run.proofs.making.made_ending.Goals as goal

pub of-tally-requires-clause-few : goal.of-tally-requires-clause-few
of-tally-requires-clause-few c =
    let i : Problem = arc_value c.in_ok-shared.field-0 in
    let same : i ≡ made_instance c.args.number = c.in_ok-shared.ensures ∙ c.in_ok-inst.ensures.instance in
    let inst : IsInstance i = subst IsInstance (sym c.in_ok-shared.ensures) c.rows-rows.ensures.instance in
    let rows : IsScript i.rows c.in_ok-inst.script = subst (λ (m : ℕ). IsScript m c.in_ok-inst.script) (sym (ap (λ (p : Problem). p.rows) same)) c.in_ok-inst.ensures.right in
    made_lines c.args.number i c.in_ok-inst.script c.in_ok-report.report same c.in_ok-inst.ensures.script c.in_ok-report.ensures.report inst rows

pub of-tally-requires-clause-costs : goal.of-tally-requires-clause-costs
of-tally-requires-clause-costs c =
    let i : Problem = arc_value c.in_ok-shared.field-0 in
    let same : i ≡ made_instance c.args.number = c.in_ok-shared.ensures ∙ c.in_ok-inst.ensures.instance in
    let inst : IsInstance i = subst IsInstance (sym c.in_ok-shared.ensures) c.rows-rows.ensures.instance in
    let rows : IsScript i.rows c.in_ok-inst.script = subst (λ (m : ℕ). IsScript m c.in_ok-inst.script) (sym (ap (λ (p : Problem). p.rows) same)) c.in_ok-inst.ensures.right in
    made_costs c.args.number i c.in_ok-inst.script c.in_ok-report.report same c.in_ok-inst.ensures.script c.in_ok-report.ensures.report inst rows

pub returns : goal.returns
returns c =
    let i : Problem = arc_value c.in_ok-shared.field-0 in
    let same : i ≡ made_instance c.args.number = c.in_ok-shared.ensures ∙ c.in_ok-inst.ensures.instance in
    let reached = c.in_ok-report.extent in (
      refl,
      record {
        report = c.in_ok-report.report;
        legal = made_legal c.args.number i c.in_ok-inst.script c.in_ok-report.report same c.in_ok-inst.ensures.script c.in_ok-report.ensures.report;
        reached = reached;
        extent = made_extent c.args.number i c.in_ok-inst.script c.in_ok-report.report same c.in_ok-inst.ensures.script c.in_ok-report.ensures.report reached c.in_ok-report.ensures.extent;
        written = c.from_vec.ensures ∙ c.in_ok-print.ensures
            ∙ ap summary_text (c.of-summary.ensures ∙ ap (λ (t : Tally). summary_of c.args.number t reached.moves reached.level) c.of-tally.ensures);
      },
    )
