use Rattle.std.proofs.Common.{All, ◌≤◌, length}
use Rattle.std.specs.Arc.{arc_value}
use Rattle.ct_walk.specs.Moves.{IsSmallMove}
use Rattle.ct_walk_bench.proofs.case.read_moves.Given as goal

abbrev pub invariant-loop : goal.invariant-loop
invariant-loop l = All (IsSmallMove (arc_value l.inst)) l.more.items × (length l.more.items ≤ l.counter)
