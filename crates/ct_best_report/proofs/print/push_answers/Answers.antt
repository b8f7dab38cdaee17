use Rattle.std.proofs.Common.{◌<◌, length, arith}
use Rattle.ct_best_report.proofs.Written.{answers_more}
use Rattle.ct_best_report.proofs.print.push_answers.Goals as goal

pub loop-i-preserved : goal.loop-i-preserved
loop-i-preserved c =
    let inside : c.loop-i.i < length c.args.answers.now = omega arith in
    rw (c.in_ok-push_answer.ensures, c.loop-i.invariant) (answers_more c.args.out.now.items c.args.answers.now c.loop-i.i c.index-answers-i.result inside c.index-answers-i.is)
