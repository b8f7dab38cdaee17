use Rattle.std.proofs.Common.{◌≡◌, map, take}
use Rattle.ct_checker.specs.Certified.{pair_of}
use Rattle.ct_checker.proofs.certifying.put_moves.Given as goal

abbrev pub invariant-loop-k : goal.invariant-loop-k
invariant-loop-k l = l.ledger ≡ record l.initial.ledger { moves = map pair_of (take l.k l.moves.moves) }
