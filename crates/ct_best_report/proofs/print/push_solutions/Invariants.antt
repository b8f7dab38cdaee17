use Rattle.std.proofs.Common.{◌≡◌, ◌++◌, map, take}
use Rattle.ct_lines.specs.Texts.{text_of}
use Rattle.ct_best_report.specs.BestText.{solution_words}
use Rattle.ct_best_report.proofs.print.push_solutions.Given as goal

abbrev pub invariant-loop-solution : goal.invariant-loop-solution
invariant-loop-solution l = l.out.items ≡ l.initial.out.items ++ text_of (map solution_words (take l.solution-index l.solutions))
