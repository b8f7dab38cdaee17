use Rattle.std.proofs.Common.{◌≡◌, take}
use Rattle.ct_answer.specs.Told.{AreToldLines}
use Rattle.ct_answer.proofs.answering.lines_of.Given as goal

abbrev pub invariant-loop-request : goal.invariant-loop-request
invariant-loop-request l = record {
  place : l.solver ≡ l.initial.solver;
  lines : AreToldLines l.initial.solver l.walks (take l.request-index l.requests) l.lines.items;
}
