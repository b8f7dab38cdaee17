use Rattle.std.proofs.Common.{take}
use Rattle.ct_box_report.specs.BoxReport.{AreBoxSessions}
use Rattle.ct_box_report.proofs.answering.sessions_of.Given as goal

abbrev pub invariant-loop-requests : goal.invariant-loop-requests
invariant-loop-requests l = AreBoxSessions l.form l.boxed.top l.boxed.limit l.walks (take l.requests-index l.sessions) l.told.items
