use Rattle.std.proofs.Common.{◌≡◌, ◌≤◌, max, take}
use Rattle.ct_vectors.specs.declared.limits.TheConstants.{GRADE_LIMIT}
use Rattle.ct_legal.specs.Scripts.{greatest}
use Rattle.ct_answer.specs.Told.{all_worked_for}
use Rattle.ct_answer.proofs.grades.raised_in.Given as goal

abbrev pub invariant-loop-requests : goal.invariant-loop-requests
invariant-loop-requests l = record {
  top : l.top ≡ max l.initial.top (greatest (all_worked_for l.asks (take l.requests-index l.sessions)));
  limit : l.top ≤ GRADE_LIMIT;
}
