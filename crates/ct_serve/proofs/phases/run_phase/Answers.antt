use Rattle.std.proofs.Common.{rules, All, sym, subst}
use Rattle.std.specs.Arc.{arc_value}
use Rattle.ct_host.specs.Hosts.{IsOfHost}
use Rattle.ct_serve.specs.Served.{IsPart}
use Rattle.ct_serve.proofs.PartFacts.{parts_are, phase_told}
use Rattle.ct_serve.proofs.phases.run_phase.Goals as goal

pub run_parts-requires-clause-parts : goal.run_parts-requires-clause-parts
run_parts-requires-clause-parts g c =
    let parts : All (IsPart c.args.shared.now.host.now) c.in_ok-parts.parts.items =
    parts_are c.args.shared.now.host.now c.args.phase.now c.in_ok-parts.parts.items
    (subst (All (IsOfHost c.args.shared.now.host.now)) (sym c.in_ok-parts.ensures.passes) c.requires.own) c.requires.phase c.in_ok-parts.ensures.jobs in
    search rules

pub returns-clause-own : goal.returns-clause-own
returns-clause-own g c =
    (phase_told c.args.shared.now.host.now c.args.shared.now.options.walks (arc_value c.args.first.now).number c.args.phase.now.sessions c.in_ok-parts.parts.items c.in_ok-dones.dones.items _ _
    c.in_ok-parts.ensures.scripts c.in_ok-dones.ensures.scripts c.in_ok-dones.ensures.done c.in_ok-passes.ensures.collected).0

pub returns-clause-told : goal.returns-clause-told
returns-clause-told g c =
    (phase_told c.args.shared.now.host.now c.args.shared.now.options.walks (arc_value c.args.first.now).number c.args.phase.now.sessions c.in_ok-parts.parts.items c.in_ok-dones.dones.items _ _
    c.in_ok-parts.ensures.scripts c.in_ok-dones.ensures.scripts c.in_ok-dones.ensures.done c.in_ok-passes.ensures.collected).1
