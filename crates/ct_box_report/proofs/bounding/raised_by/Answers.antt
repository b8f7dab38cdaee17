use Rattle.std.proofs.Common.{◌≡◌, ◌+◌, ◌<◌, List, length, sym, ap, subst, ◌∙◌, arith}
use Rattle.ct_vectors.specs.Vectors.{lcm}
use Rattle.ct_input.specs.Script.{right_of, IsRequest}
use Rattle.ct_form.specs.EqualityForms.{equal_of, right_for}
use Rattle.ct_answer.proofs.Pairing.{at_item}
use Rattle.ct_box_report.specs.BoxReport.{top_with_request}
use Rattle.ct_box_report.specs.Boxes.{IsTop}
use Rattle.ct_box_report.proofs.Tops.{fold_more, wide_is_top, request_keeps}
use Rattle.ct_box_report.proofs.bounding.raised_by.Goals as goal

pub lcm-requires : goal.lcm-requires
lcm-requires c =
    let inside : c.loop-request.request-index < length c.args.requests.now = omega arith in
    let asked : IsRequest c.args.form.now.rows c.request-item.result =
    at_item (IsRequest c.args.form.now.rows) c.args.requests.now c.loop-request.request-index c.request-item.result inside c.request-item.is c.requires.requests in
    let wide : IsTop c.args.form.now (right_for c.args.form.now (right_of c.request-item.result)) =
    wide_is_top c.args.form.now c.rows-rows.ensures.form (right_of c.request-item.result) asked.right asked.limit in
    let same : c.in_ok-right.right ≡ right_for c.args.form.now (right_of c.request-item.result) = c.in_ok-right.ensures ∙ ap (right_for c.args.form.now) c.right.ensures in
    c.loop-request.invariant.stays.right ∙ sym (ap length same ∙ wide.right)

pub loop-request-preserved : goal.loop-request-preserved
loop-request-preserved c =
    let f = c.args.form.now in
    let inside : c.loop-request.request-index < length c.args.requests.now = omega arith in
    let asked : IsRequest f.rows c.request-item.result =
    at_item (IsRequest f.rows) c.args.requests.now c.loop-request.request-index c.request-item.result inside c.request-item.is c.requires.requests in
    let same : c.in_ok-right.right ≡ right_for f (right_of c.request-item.result) = c.in_ok-right.ensures ∙ ap (right_for f) c.right.ensures in
    let more : c.in_ok-most.most ≡ top_with_request f c.loop-request.most c.request-item.result = c.in_ok-most.ensures ∙ ap (lcm c.loop-request.most) same in
    record {
      top = more ∙ fold_more (top_with_request f) c.args.top c.loop-request.most c.args.requests.now c.loop-request.request-index c.request-item.result inside c.request-item.is c.loop-request.invariant.top;
      stays = subst (IsTop f) (sym more) (request_keeps f c.rows-rows.ensures.form c.loop-request.most c.request-item.result c.loop-request.invariant.stays asked);
    }
