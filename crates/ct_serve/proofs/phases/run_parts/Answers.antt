use Rattle.std.proofs.Common.{arith}
use Rattle.std.specs.Arc.{arc_value}
use Rattle.ct_serve.proofs.CollectedParts.{IsRun, each_at, run_scripts, run_done}
use Rattle.ct_serve.proofs.phases.run_parts.Goals as goal

pub returns-clause-scripts : goal.returns-clause-scripts
returns-clause-scripts g c =
    run_scripts c.args.shared.now.host.now c.args.shared.now.options.walks (arc_value c.args.first.now).number c.args.parts.items c.in_ok-dones.dones.items
    (each_at (IsRun c.args.shared.now.host.now c.args.shared.now.options.walks (arc_value c.args.first.now).number) c.args.parts.items c.in_ok-dones.dones.items (omega (arith, c.in_ok-dones.ensures.len, c.in_ok-dones.dones.ok.0, c.args.parts.ok.0))
    (λ i d inside. let k = (c.in_ok-dones.ensures.each i d inside).1 in
    (k.job, k.job_read, record { job = ((k.call).met).0; done_is = ((k.call).met).1 })))

pub returns-clause-done : goal.returns-clause-done
returns-clause-done g c =
    run_done c.args.shared.now.host.now c.args.shared.now.options.walks (arc_value c.args.first.now).number c.args.parts.items c.in_ok-dones.dones.items
    (each_at (IsRun c.args.shared.now.host.now c.args.shared.now.options.walks (arc_value c.args.first.now).number) c.args.parts.items c.in_ok-dones.dones.items (omega (arith, c.in_ok-dones.ensures.len, c.in_ok-dones.dones.ok.0, c.args.parts.ok.0))
    (λ i d inside. let k = (c.in_ok-dones.ensures.each i d inside).1 in
    (k.job, k.job_read, record { job = ((k.call).met).0; done_is = ((k.call).met).1 })))
