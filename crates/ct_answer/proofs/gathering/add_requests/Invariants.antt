use Rattle.std.proofs.Common.{All}
use Rattle.ct_batch.specs.Answering.{CanBeAnswered}
use Rattle.ct_answer.proofs.gathering.add_requests.Given as goal

abbrev pub invariant-loop-request : goal.invariant-loop-request
invariant-loop-request l = All (CanBeAnswered l.version) l.rights.items
