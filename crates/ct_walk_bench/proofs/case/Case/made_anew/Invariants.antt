use Rattle.std.proofs.Common.{All, ◌≡◌, length}
use Rattle.ct_walk.specs.Moves.{IsSmallMove}
use Rattle.ct_walk_bench.proofs.case.Case.made_anew.Given as goal

abbrev pub invariant-loop-index : goal.invariant-loop-index
invariant-loop-index l = All (IsSmallMove l.self.moves.instance) l.all.items × (length l.all.items ≡ l.index)
