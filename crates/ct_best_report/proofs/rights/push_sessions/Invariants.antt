use Rattle.std.proofs.Common.{◌≡◌, ◌++◌, map, take}
use Rattle.std.specs.List.{flat_map}
use Rattle.ct_input.specs.Script.{right_of}
use Rattle.ct_best_report.proofs.rights.push_sessions.Given as goal

abbrev pub invariant-loop-requests : goal.invariant-loop-requests
invariant-loop-requests l = map (λ b. b.now) l.rights.items ≡ map (λ b. b.now) l.initial.rights.items ++ flat_map (λ requests. map right_of requests) (take l.requests-index l.sessions)
