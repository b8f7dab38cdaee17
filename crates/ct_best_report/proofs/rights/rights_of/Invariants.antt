use Rattle.std.proofs.Common.{◌≡◌, map, take}
use Rattle.std.specs.List.{flat_map}
use Rattle.ct_input.specs.Script.{right_of}
use Rattle.ct_best_report.proofs.rights.rights_of.Given as goal

abbrev pub invariant-loop-phase : goal.invariant-loop-phase
invariant-loop-phase l = map (λ b. b.now) l.rights.items ≡ flat_map (λ phase. flat_map (λ requests. map right_of requests) phase.sessions) (take l.phase-index l.script.phases)
