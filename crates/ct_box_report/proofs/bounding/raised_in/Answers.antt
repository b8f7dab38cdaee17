use Rattle.std.proofs.Common.{◌≡◌, ◌+◌, ◌<◌, List, length, sym, ap, subst, ◌∙◌, arith}
use Rattle.ct_box_report.specs.BoxReport.{top_with_session}
use Rattle.ct_box_report.proofs.Tops.{fold_more}
use Rattle.ct_box_report.proofs.bounding.raised_in.Goals as goal

pub loop-requests-preserved : goal.loop-requests-preserved
loop-requests-preserved c =
    let f = c.args.form.now in
    let inside : c.loop-requests.requests-index < length c.args.sessions.now = omega arith in
    record {
      top = c.in_ok-most.ensures.top ∙ ap (top_with_session f c.loop-requests.most) c.as_slice.ensures ∙
          fold_more (top_with_session f) c.args.top c.loop-requests.most c.args.sessions.now c.loop-requests.requests-index c.requests-item.result inside c.requests-item.is c.loop-requests.invariant.top;
      stays = c.in_ok-most.ensures.stays;
    }
