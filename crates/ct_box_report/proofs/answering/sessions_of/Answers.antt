use Rattle.std.proofs.Common.{List, ◌+◌, ◌<◌, length, take, subst, sym, arith}
use Rattle.ct_session.specs.declared.lines.Line.{Line}
use Rattle.ct_answer.proofs.Pairing.{each_more}
use Rattle.ct_box_report.specs.BoxReport.{AreBoxLines, AreBoxSessions}
use Rattle.ct_box_report.proofs.answering.sessions_of.Goals as goal

pub loop-requests-preserved : goal.loop-requests-preserved
loop-requests-preserved c =
    let f = c.args.form.now in
    let s = c.args.boxed.now in
    let inside : c.loop-requests.requests-index < length c.args.sessions.now = omega arith in
    let told : AreBoxLines f s.top s.limit c.args.walks c.requests-item.result c.in_ok-lines_of.field-0 =
    subst (λ rs. AreBoxLines f s.top s.limit c.args.walks rs c.in_ok-lines_of.field-0) c.as_slice.ensures c.in_ok-lines_of.ensures in
    subst (AreBoxSessions f s.top s.limit c.args.walks (take (c.loop-requests.requests-index + 1) c.args.sessions.now)) (sym {A = List (List Line)} c.in_ok-push.ensures.items)
    (each_more (AreBoxLines f s.top s.limit c.args.walks) c.args.sessions.now c.loop-requests.told.items c.loop-requests.requests-index c.requests-item.result c.in_ok-lines_of.field-0
    inside c.requests-item.is c.loop-requests.invariant told)
