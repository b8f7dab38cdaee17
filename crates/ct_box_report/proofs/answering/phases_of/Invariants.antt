use Rattle.std.proofs.Common.{take}
use Rattle.ct_box_report.specs.BoxReport.{AreBoxPhases}
use Rattle.ct_box_report.proofs.answering.phases_of.Given as goal

abbrev pub invariant-loop-phase : goal.invariant-loop-phase
invariant-loop-phase l = AreBoxPhases l.form l.boxed.top l.boxed.limit l.walks (take l.phase-index l.phases) l.told.items
