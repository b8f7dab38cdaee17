use Rattle.std.proofs.Common.{◌≡◌, ◌≤◌, filter, length, take, All}
use Rattle.std.specs.Arc.{arc_value}
use Rattle.ct_walk.specs.Moves.{IsSmallMove}
use Rattle.ct_resume.specs.Resuming.{is_under}
use Rattle.ct_resume.proofs.resuming.moves_under.Given as goal

abbrev pub invariant-loop-index : goal.invariant-loop-index
invariant-loop-index l = record {
  kept : l.kept.items ≡ filter (is_under (arc_value l.inst) l.grade) (take l.index l.moves.moves);
  small : All (IsSmallMove (arc_value l.inst)) l.kept.items;
  few : length l.kept.items ≤ l.index;
}
