use Rattle.std.proofs.Common.{All, ◌≡◌, length}
use Rattle.std.specs.Arc.{arc_value}
use Rattle.ct_walk.specs.Moves.{IsSmallMove}
use Rattle.ct_rows.proofs.list_tests.falling.Given as goal

abbrev pub invariant-loop-k : goal.invariant-loop-k
invariant-loop-k g l = All (IsSmallMove (arc_value l.inst)) l.more.items × (length l.more.items ≡ l.k)
