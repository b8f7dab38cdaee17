use Rattle.std.proofs.Common.{◌≡◌, take}
use Rattle.ct_answer.specs.Told.{AreToldSessions}
use Rattle.ct_answer.proofs.answering.sessions_of.Given as goal

abbrev pub invariant-loop-requests : goal.invariant-loop-requests
invariant-loop-requests l = record {
  place : l.solver ≡ l.initial.solver;
  told : AreToldSessions l.initial.solver l.walks (take l.requests-index l.sessions) l.told.items;
}
