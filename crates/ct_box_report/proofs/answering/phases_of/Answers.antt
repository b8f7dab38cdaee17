use Rattle.std.proofs.Common.{List, ◌+◌, ◌<◌, length, take, subst, sym, arith}
use Rattle.ct_report.specs.declared.reports.PhaseReport.{PhaseReport}
use Rattle.ct_answer.proofs.Pairing.{each_more}
use Rattle.ct_box_report.specs.BoxReport.{IsBoxPhase, AreBoxPhases}
use Rattle.ct_box_report.proofs.answering.phases_of.Goals as goal

pub loop-phase-preserved : goal.loop-phase-preserved
loop-phase-preserved c =
    let f = c.args.form.now in
    let s = c.args.boxed.now in
    let inside : c.loop-phase.phase-index < length c.args.phases.now = omega arith in
    subst (AreBoxPhases f s.top s.limit c.args.walks (take (c.loop-phase.phase-index + 1) c.args.phases.now)) (sym {A = List PhaseReport} c.in_ok-push.ensures.items)
    (each_more (IsBoxPhase f s.top s.limit c.args.walks) c.args.phases.now c.loop-phase.told.items c.loop-phase.phase-index c.phase-item.result c.in_ok-phase_of.field-0
    inside c.phase-item.is c.loop-phase.invariant c.in_ok-phase_of.ensures)
