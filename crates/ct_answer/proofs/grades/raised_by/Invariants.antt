use Rattle.std.proofs.Common.{◌≡◌, ◌≤◌, max, map, take}
use Rattle.ct_vectors.specs.declared.limits.TheConstants.{GRADE_LIMIT}
use Rattle.ct_legal.specs.Scripts.{greatest}
use Rattle.ct_answer.specs.Told.{worked_for}
use Rattle.ct_answer.proofs.grades.raised_by.Given as goal

abbrev pub invariant-loop-request : goal.invariant-loop-request
invariant-loop-request l = record {
  top : l.top ≡ max l.initial.top (greatest (map (worked_for l.asks) (take l.request-index l.requests)));
  limit : l.top ≤ GRADE_LIMIT;
}
