use Rattle.std.proofs.Common.{◌<◌, length, arith}
use Rattle.ct_answer.proofs.Extents.{grade_more}
use Rattle.ct_answer.proofs.grades.grade_of.Goals as goal

pub loop-phase-preserved : goal.loop-phase-preserved
loop-phase-preserved c =
    let inside : c.loop-phase.phase-index < length c.args.phases.now = omega arith in
    record {
      grade = λ p o. grade_more p o c.args.phases.now c.loop-phase.phase-index c.loop-phase.grade c.raised-grade.result c.phase-item.result inside c.phase-item.is
          (c.loop-phase.invariant.grade p o) c.raised-grade.ensures.greatest;
      limit = c.raised-grade.ensures.limit;
    }
