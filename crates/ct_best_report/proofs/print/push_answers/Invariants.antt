use Rattle.std.proofs.Common.{◌≡◌, ◌++◌, take}
use Rattle.ct_lines.specs.Texts.{text_of}
use Rattle.ct_best_report.specs.BestText.{answers_lines}
use Rattle.ct_best_report.proofs.print.push_answers.Given as goal

abbrev pub invariant-loop-i : goal.invariant-loop-i
invariant-loop-i l = l.out.items ≡ l.initial.out.items ++ text_of (answers_lines 1 (take l.i l.answers))
