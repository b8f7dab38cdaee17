use Rattle.std.proofs.Common.{◌∙◌}
use Rattle.ct_gen.proofs.Inputs.{two_pushed, phase_made}
use Rattle.ct_gen.proofs.making.phase.Goals as goal

pub returns-clause-phase : goal.returns-clause-phase
returns-clause-phase c =
    let are = two_pushed c.in_ok-session.field-0 c.in_ok-session-2.field-0 c.new-sessions.result.items c.push.new.self.items c.push-2.new.self.items c.new-sessions.ensures.items c.in_ok-push.ensures.items c.in_ok-push-2.ensures.items in
    phase_made c.args.source.now.0 c.args.index _ c.session.new.source c.in_ok-session.field-0 c.in_ok-session-2.field-0 c.from_vec.result c.in_ok-session.ensures.source c.in_ok-session.ensures.requests c.in_ok-session-2.ensures.requests (c.from_vec.ensures ∙ are)
