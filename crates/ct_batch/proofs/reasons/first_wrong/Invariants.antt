use Rattle.std.proofs.Common.{◌≡◌, ◌+◌, drop}
use Rattle.ct_batch.specs.Reasons.{first_with_reason}
use Rattle.ct_batch.proofs.reasons.first_wrong.Given as goal

abbrev pub invariant-loop-k : goal.invariant-loop-k
invariant-loop-k l = first_with_reason l.line l.reasons ≡ first_with_reason (l.line + l.k) (drop l.k l.reasons)
