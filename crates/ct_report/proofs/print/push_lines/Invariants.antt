use Rattle.std.proofs.Common.{◌≡◌, ◌++◌, take}
use Rattle.std.specs.List.{flat_map}
use Rattle.ct_lines.specs.Texts.{text_of}
use Rattle.ct_report.specs.ReportText.{line_lines}
use Rattle.ct_report.proofs.print.push_lines.Given as goal

abbrev pub invariant-loop-line : goal.invariant-loop-line
invariant-loop-line l = l.out.items ≡ l.initial.out.items ++ text_of (flat_map line_lines (take l.line-index l.lines))
