use Rattle.std.proofs.Common.{◌<◌, ◌≡◌, max, true, length, take, ap, ◌∙◌, arith}
use Rattle.std.specs.List.{flat_map}
use Rattle.ct_input.specs.declared.script.Phase.{Phase}
use Rattle.ct_legal.specs.Scripts.{greatest}
use Rattle.ct_answer.specs.Told.{all_worked_for}
use Rattle.ct_answer.proofs.Pairing.{greatest_flat_more}
use Rattle.ct_answer.proofs.grades.greatest_sum.Goals as goal

pub loop-phase-preserved : goal.loop-phase-preserved
loop-phase-preserved c =
    let inside : c.loop-phase.phase-index < length c.args.phases.now = omega arith in
    let so_far : c.loop-phase.top ≡ max 0 (greatest (flat_map (λ (phase : Phase). all_worked_for true phase.sessions) (take c.loop-phase.phase-index c.args.phases.now))) = omega (arith, c.loop-phase.invariant.top) in
    let raised : c.raised_in-top.result ≡ max c.loop-phase.top (greatest (all_worked_for true c.phase-item.result.sessions)) =
    c.raised_in-top.ensures.greatest ∙ ap (λ sessions. max c.loop-phase.top (greatest (all_worked_for true sessions))) c.as_slice.ensures in
    let more = greatest_flat_more (λ (phase : Phase). all_worked_for true phase.sessions) c.args.phases.now c.loop-phase.phase-index c.loop-phase.top 0 c.phase-item.result inside c.phase-item.is so_far in
    record {
      top = omega (arith, raised, more);
      limit = c.raised_in-top.ensures.limit;
    }
