use Rattle.std.proofs.Common.{◌≡◌, take}
use Rattle.std.specs.List.{fold}
use Rattle.ct_box_report.specs.BoxReport.{top_with_phase}
use Rattle.ct_box_report.specs.Boxes.{IsTop}
use Rattle.ct_box_report.proofs.bounding.raised_over.Given as goal

abbrev pub invariant-loop-phase : goal.invariant-loop-phase
invariant-loop-phase l = record {
  top : l.most ≡ fold (top_with_phase l.form) l.initial.most (take l.phase-index l.phases);
  stays : IsTop l.form l.most;
}
