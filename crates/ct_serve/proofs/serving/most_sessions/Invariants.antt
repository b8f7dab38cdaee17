use Rattle.std.proofs.Common.{◌≤◌, All, length, take}
use Rattle.ct_vectors.specs.declared.limits.TheConstants.{SESSION_LIMIT}
use Rattle.ct_serve.proofs.serving.most_sessions.Given as goal

abbrev pub invariant-loop-phase : goal.invariant-loop-phase
invariant-loop-phase l = record {
  most : All (λ phase. length phase.sessions ≤ l.most) (take l.phase-index l.phases);
  limit : l.most ≤ SESSION_LIMIT;
}
