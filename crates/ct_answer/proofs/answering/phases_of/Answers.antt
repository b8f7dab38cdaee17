use Rattle.std.proofs.Common.{List, ◌+◌, ◌<◌, length, subst, sym, ◌∙◌, arith}
use Rattle.ct_report.specs.declared.reports.PhaseReport.{PhaseReport}
use Rattle.ct_answer.specs.Told.{IsToldPhase}
use Rattle.ct_answer.proofs.ToldReports.{AreToldUpto, told_more}
use Rattle.ct_answer.proofs.answering.phases_of.Goals as goal

pub loop-phase-preserved : goal.loop-phase-preserved
loop-phase-preserved c =
    let inside : c.loop-phase.phase-index < length c.args.phases.now = omega arith in
    let told : IsToldPhase c.args.solver.now c.args.options c.raised-grade.result c.phase-item.result c.in_ok-phase_of.field-0 =
    subst (λ p. IsToldPhase p c.args.options c.raised-grade.result c.phase-item.result c.in_ok-phase_of.field-0) c.loop-phase.invariant.place c.in_ok-phase_of.ensures.phase in
    record {
      place = c.phase_of.ensures.place ∙ c.loop-phase.invariant.place;
      limit = c.raised-grade.ensures.limit;
      told = subst (AreToldUpto c.args.solver.now c.args.options c.args.phases.now (c.loop-phase.phase-index + 1) c.raised-grade.result) (sym {A = List PhaseReport} c.in_ok-push.ensures.items)
          (told_more c.args.solver.now c.args.options c.args.phases.now c.loop-phase.phase-index c.loop-phase.grade c.raised-grade.result c.loop-phase.told.items c.phase-item.result c.in_ok-phase_of.field-0
          inside c.phase-item.is c.loop-phase.invariant.told c.raised-grade.ensures.greatest told);
    }
