use Rattle.std.proofs.Common.{◌≡◌, ◌++◌, map, take}
use Rattle.ct_input.specs.Script.{right_of}
use Rattle.ct_best_report.proofs.rights.push_requests.Given as goal

abbrev pub invariant-loop-request : goal.invariant-loop-request
invariant-loop-request l = map (λ b. b.now) l.rights.items ≡ map (λ b. b.now) l.initial.rights.items ++ map right_of (take l.request-index l.requests)
