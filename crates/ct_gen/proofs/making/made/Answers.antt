use Rattle.std.proofs.Common.{◌∙◌}
use Rattle.ct_gen.proofs.Inputs.{two_pushed, script_made, right_is}
use Rattle.ct_gen.proofs.making.made.Goals as goal

pub returns-clause-script : goal.returns-clause-script
returns-clause-script c =
    let are = two_pushed c.in_ok-phase.field-0 c.in_ok-phase-2.field-0 c.new-phases.result.items c.push.new.self.items c.push-2.new.self.items c.new-phases.ensures.items c.in_ok-push.ensures.items c.in_ok-push-2.ensures.items in
    script_made c.args.number _ _ _ c.new-source.result c.instance.new.source c.phase.new.source c.in_ok-phase.field-0 c.in_ok-phase-2.field-0 c.from_vec.result c.new-source.ensures c.in_ok-instance.ensures.source c.in_ok-phase.ensures.source c.in_ok-phase.ensures.phase c.in_ok-phase-2.ensures.phase (c.from_vec.ensures ∙ are)

pub returns-clause-right : goal.returns-clause-right
returns-clause-right c = right_is c.args.number (record { phases = c.from_vec.result }) (returns-clause-script c)
