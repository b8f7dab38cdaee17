use Rattle.std.proofs.Common.{◌≡◌, ◌≤◌}
use Rattle.ct_vectors.specs.declared.limits.TheConstants.{GRADE_LIMIT}
use Rattle.ct_answer.proofs.ToldReports.{AreToldUpto}
use Rattle.ct_answer.proofs.answering.phases_of.Given as goal

abbrev pub invariant-loop-phase : goal.invariant-loop-phase
invariant-loop-phase l = record {
  place : l.solver ≡ l.initial.solver;
  limit : l.grade ≤ GRADE_LIMIT;
  told : AreToldUpto l.initial.solver l.options l.phases l.phase-index l.grade l.told.items;
}
