use Rattle.std.proofs.Common.{All}
use Rattle.ct_batch.specs.Answering.{CanBeAnswered}
use Rattle.ct_answer.proofs.gathering.add_sessions.Given as goal

abbrev pub invariant-loop-requests : goal.invariant-loop-requests
invariant-loop-requests l = All (CanBeAnswered l.version) l.rights.items
