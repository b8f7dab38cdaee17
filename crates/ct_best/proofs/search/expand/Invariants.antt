use Rattle.ct_best.proofs.Frontier.{Expanding}
use Rattle.ct_best.proofs.search.expand.Given as goal

abbrev pub invariant-loop-j : goal.invariant-loop-j
invariant-loop-j l = Expanding l.moves.instance l.b l.count l.moves.moves l.found.items l.n l.j l.scratch
