use Rattle.std.proofs.Common.{◌≡◌}
use Rattle.ct_solo.specs.HeadGrades.{grades_to}
use Rattle.ct_solo.proofs.filling.head_grades.Given as goal

abbrev pub invariant-loop-k : goal.invariant-loop-k
invariant-loop-k l = l.grades.items ≡ grades_to l.moves.instance l.moves.moves l.k
