use Rattle.std.proofs.Common.{◌≡◌, take}
use Rattle.std.specs.List.{fold}
use Rattle.ct_box_report.specs.BoxReport.{top_with_session}
use Rattle.ct_box_report.specs.Boxes.{IsTop}
use Rattle.ct_box_report.proofs.bounding.raised_in.Given as goal

abbrev pub invariant-loop-requests : goal.invariant-loop-requests
invariant-loop-requests l = record {
  top : l.most ≡ fold (top_with_session l.form) l.initial.most (take l.requests-index l.sessions);
  stays : IsTop l.form l.most;
}
