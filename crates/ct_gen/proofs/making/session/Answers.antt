use Rattle.ct_gen.proofs.Inputs.{session_made}
use Rattle.ct_gen.proofs.making.session.Goals as goal

pub returns-clause-requests : goal.returns-clause-requests
returns-clause-requests c =
    rw c.from_vec-2.ensures (session_made c.args.source.now.0 c.args.index c.args.source.now.1 c.loop-d.d-index c.in_ok-drawn.drawn.items c.deref-d-items.result.now c.loop-d.requests.items c.deref-d-items.ensures.value c.in_ok-drawn.ensures.draws c.requires.here c.loop-d.invariant c.loop-d-test.false)
