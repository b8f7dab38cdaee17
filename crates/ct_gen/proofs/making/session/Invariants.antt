use Rattle.std.proofs.Common.{◌≡◌, map, take}
use Rattle.ct_gen.specs.Made.{made_request}
use Rattle.ct_gen.proofs.making.session.Given as goal

abbrev pub invariant-loop-d : goal.invariant-loop-d
invariant-loop-d l = l.requests.items ≡ map made_request (take l.d-index l.d-items)
