use Rattle.std.proofs.Common.{◌≡◌, ◌+◌, ◌<◌, List, length, sym, ap, subst, ◌∙◌, arith}
use Rattle.std.specs.List.{fold}
use Rattle.ct_box_report.specs.BoxReport.{top_with_session, top_with_phase}
use Rattle.ct_box_report.proofs.Tops.{fold_more}
use Rattle.ct_box_report.proofs.bounding.raised_over.Goals as goal

pub loop-phase-preserved : goal.loop-phase-preserved
loop-phase-preserved c =
    let f = c.args.form.now in
    let inside : c.loop-phase.phase-index < length c.args.phases.now = omega arith in
    record {
      top = c.in_ok-most.ensures.top ∙ ap (fold (top_with_session f) c.loop-phase.most) c.as_slice.ensures ∙
          fold_more (top_with_phase f) c.args.top c.loop-phase.most c.args.phases.now c.loop-phase.phase-index c.phase-item.result inside c.phase-item.is c.loop-phase.invariant.top;
      stays = c.in_ok-most.ensures.stays;
    }
