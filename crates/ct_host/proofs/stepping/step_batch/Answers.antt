use Rattle.std.proofs.Common.{subst}
use Rattle.ct_book.specs.Benches.{IsGiven}
use Rattle.ct_host.specs.Hosts.{HostSeen}
use Rattle.ct_host.proofs.stepping.step_batch.Goals as goal

pub shown-requires-clause-given : goal.shown-requires-clause-given
shown-requires-clause-given g c =
    (c.args.target, subst (λ (h : HostSeen). IsGiven h.place c.args.target c.in_ok-step.step) c.host.view_is (c.in_ok-step.ensures.answer).given)
