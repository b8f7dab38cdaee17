use Rattle.std.proofs.Common.{◌≡◌, ◌≤◌, true, take}
use Rattle.std.specs.List.{flat_map}
use Rattle.ct_vectors.specs.declared.limits.TheConstants.{GRADE_LIMIT}
use Rattle.ct_legal.specs.Scripts.{greatest}
use Rattle.ct_answer.specs.Told.{all_worked_for}
use Rattle.ct_answer.proofs.grades.greatest_sum.Given as goal

abbrev pub invariant-loop-phase : goal.invariant-loop-phase
invariant-loop-phase l = record {
  top : l.top ≡ greatest (flat_map (λ phase. all_worked_for true phase.sessions) (take l.phase-index l.phases));
  limit : l.top ≤ GRADE_LIMIT;
}
