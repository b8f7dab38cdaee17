use Rattle.std.proofs.Common.{List, ◌+◌, ◌<◌, length, take, subst, sym, ◌∙◌, arith}
use Rattle.ct_instance.specs.Answer.{answer_of}
use Rattle.ct_session.specs.declared.lines.Line.{Line}
use Rattle.ct_session.specs.Lines.{IsSolveLine}
use Rattle.ct_answer.specs.Told.{IsTold, AreToldLines}
use Rattle.ct_answer.proofs.Pairing.{each_more}
use Rattle.ct_answer.proofs.answering.lines_of.Goals as goal

pub loop-request-preserved : goal.loop-request-preserved
loop-request-preserved c =
    let inside : c.loop-request.request-index < length c.args.requests.now = omega arith in
    let told : IsTold c.args.solver.now c.args.walks c.request-item.result c.in_ok-line.field-0 =
    subst (λ p. IsTold p c.args.walks c.request-item.result c.in_ok-line.field-0) c.loop-request.invariant.place
    (subst (λ b. IsSolveLine c.loop-request.solver.instance c.loop-request.solver.limit c.args.walks (answer_of c.loop-request.solver.instance b) b c.in_ok-line.field-0)
    c.right.ensures c.in_ok-line.ensures.line) in
    record {
      place = c.line.ensures.place ∙ c.loop-request.invariant.place;
      lines = subst (AreToldLines c.args.solver.now c.args.walks (take (c.loop-request.request-index + 1) c.args.requests.now)) (sym {A = List Line} c.in_ok-push.ensures.items)
          (each_more (IsTold c.args.solver.now c.args.walks) c.args.requests.now c.loop-request.lines.items c.loop-request.request-index c.request-item.result c.in_ok-line.field-0
          inside c.request-item.is c.loop-request.invariant.lines told);
    }
