use Rattle.std.proofs.Common.{List, ◌+◌, ◌<◌, length, take, subst, sym, ◌∙◌, arith}
use Rattle.ct_session.specs.declared.lines.Line.{Line}
use Rattle.ct_answer.specs.Told.{AreToldLines, AreToldSessions}
use Rattle.ct_answer.proofs.Pairing.{each_more}
use Rattle.ct_answer.proofs.answering.sessions_of.Goals as goal

pub loop-requests-preserved : goal.loop-requests-preserved
loop-requests-preserved c =
    let inside : c.loop-requests.requests-index < length c.args.sessions.now = omega arith in
    let told : AreToldLines c.args.solver.now c.args.walks c.requests-item.result c.in_ok-lines_of.field-0 =
    subst (λ p. AreToldLines p c.args.walks c.requests-item.result c.in_ok-lines_of.field-0) c.loop-requests.invariant.place
    (subst (λ rs. AreToldLines c.loop-requests.solver c.args.walks rs c.in_ok-lines_of.field-0) c.as_slice.ensures c.in_ok-lines_of.ensures.lines) in
    record {
      place = c.lines_of.ensures.place ∙ c.loop-requests.invariant.place;
      told = subst (AreToldSessions c.args.solver.now c.args.walks (take (c.loop-requests.requests-index + 1) c.args.sessions.now)) (sym {A = List (List Line)} c.in_ok-push.ensures.items)
          (each_more (AreToldLines c.args.solver.now c.args.walks) c.args.sessions.now c.loop-requests.told.items c.loop-requests.requests-index c.requests-item.result c.in_ok-lines_of.field-0
          inside c.requests-item.is c.loop-requests.invariant.told told);
    }
