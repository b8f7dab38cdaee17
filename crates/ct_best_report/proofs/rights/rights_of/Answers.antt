use Rattle.std.proofs.Common.{◌≡◌, ◌≤◌, length, map, ap, ◌∙◌, arith}
use Rattle.std.specs.List.{flat_map}
use Rattle.std.proofs.lemmas.List.{take_all}
use Rattle.ct_input.specs.declared.script.Phase.{Phase}
use Rattle.ct_input.specs.Script.{right_of}
use Rattle.ct_best_report.specs.BestReport.{rights_in}
use Rattle.ct_best_report.proofs.Asked.{same_asked}
use Rattle.ct_best_report.proofs.rights.rights_of.Goals as goal

pub returns-clause-asked : goal.returns-clause-asked
returns-clause-asked c i script =
    let past : length c.args.script.now.phases ≤ c.loop-phase.phase-index = omega (arith, c.loop-phase-test.false, ap length c.as_slice-phase-items.ensures) in
    let same : map (λ b. b.now) c.loop-phase.rights.items ≡ rights_in c.args.script.now =
    c.loop-phase.invariant ∙ ap (flat_map (λ (phase : Phase). flat_map (λ requests. map right_of requests) phase.sessions)) (take_all c.loop-phase.phase-index c.args.script.now.phases past) in
    same_asked i c.args.script.now (map (λ b. b.now) c.loop-phase.rights.items) same script
