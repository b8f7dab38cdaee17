use Rattle.ct_best.proofs.Frontier.{Turning}
use Rattle.ct_best.proofs.search.least_found.Given as goal

abbrev pub invariant-loop-n : goal.invariant-loop-n
invariant-loop-n l = Turning l.moves.instance l.b l.count l.moves.moves l.found.items l.n l.scratch
