use Rattle.std.proofs.Common.{◌<◌, ◌≤◌, ◌≡◌, max, length, ap, arith}
use Rattle.ct_vectors.specs.declared.limits.TheConstants.{SESSION_LIMIT}
use Rattle.ct_input.specs.declared.script.Phase.{Phase}
use Rattle.ct_answer.proofs.Pairing.{at_item}
use Rattle.ct_serve.proofs.ServedPhases.{most_more}
use Rattle.ct_serve.proofs.serving.most_sessions.Goals as goal

pub loop-phase-preserved : goal.loop-phase-preserved
loop-phase-preserved c =
    let inside : c.loop-phase.phase-index < length c.args.phases.now = omega arith in
    let few : length c.phase-item.result.sessions ≤ SESSION_LIMIT =
    at_item (λ (p : Phase). length p.sessions ≤ SESSION_LIMIT) c.args.phases.now c.loop-phase.phase-index c.phase-item.result inside c.phase-item.is c.requires in
    let raised : c.max-most.result ≡ max c.loop-phase.most (length c.phase-item.result.sessions) = omega (arith, c.max-most.ensures, ap length c.as_slice.ensures) in
    record {
      most = most_more c.args.phases.now c.loop-phase.phase-index c.loop-phase.most c.phase-item.result inside c.phase-item.is c.loop-phase.invariant.most c.max-most.result raised;
      limit = omega (arith, raised, few, c.loop-phase.invariant.limit);
    }
