use Rattle.std.proofs.Common.{All}
use Rattle.ct_batch.specs.Answering.{CanBeAnswered}
use Rattle.ct_answer.proofs.gathering.covered_in.Given as goal

abbrev pub invariant-loop-phase : goal.invariant-loop-phase
invariant-loop-phase l = All (CanBeAnswered l.version) l.rights.items
