use Rattle.std.proofs.Common.{take}
use Rattle.ct_box_report.specs.BoxReport.{AreBoxLines}
use Rattle.ct_box_report.proofs.answering.lines_of.Given as goal

abbrev pub invariant-loop-request : goal.invariant-loop-request
invariant-loop-request l = AreBoxLines l.form l.boxed.top l.boxed.limit l.walks (take l.request-index l.requests) l.lines.items
