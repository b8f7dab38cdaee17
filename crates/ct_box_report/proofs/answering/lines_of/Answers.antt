use Rattle.std.proofs.Common.{List, ◌+◌, ◌<◌, length, take, subst, sym, arith}
use Rattle.ct_session.specs.declared.lines.Line.{Line}
use Rattle.ct_answer.proofs.Pairing.{each_more}
use Rattle.ct_box_report.specs.BoxReport.{IsBoxLine, IsBoxRequest, AreBoxLines}
use Rattle.ct_box_report.proofs.answering.lines_of.Goals as goal

pub loop-request-preserved : goal.loop-request-preserved
loop-request-preserved c =
    let f = c.args.form.now in
    let s = c.args.boxed.now in
    let inside : c.loop-request.request-index < length c.args.requests.now = omega arith in
    let told : IsBoxRequest f s.top s.limit c.args.walks c.request-item.result c.in_ok-line_of.field-0 =
    subst (λ b. IsBoxLine f s.top s.limit c.args.walks b c.in_ok-line_of.field-0) c.right.ensures c.in_ok-line_of.ensures in
    subst (AreBoxLines f s.top s.limit c.args.walks (take (c.loop-request.request-index + 1) c.args.requests.now)) (sym {A = List Line} c.in_ok-push.ensures.items)
    (each_more (IsBoxRequest f s.top s.limit c.args.walks) c.args.requests.now c.loop-request.lines.items c.loop-request.request-index c.request-item.result c.in_ok-line_of.field-0
    inside c.request-item.is c.loop-request.invariant told)
