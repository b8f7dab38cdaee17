use Rattle.std.proofs.Common.{◌≡◌, take}
use Rattle.ct_box_report.specs.BoxReport.{top_with_session}
use Rattle.ct_box_report.specs.Boxes.{IsTop}
use Rattle.ct_box_report.proofs.bounding.raised_by.Given as goal

abbrev pub invariant-loop-request : goal.invariant-loop-request
invariant-loop-request l = record {
  top : l.most ≡ top_with_session l.form l.initial.most (take l.request-index l.requests);
  stays : IsTop l.form l.most;
}
