use Rattle.std.proofs.Common.{◌≡◌, take}
use Rattle.ct_groups.specs.Groups.{points_seen}
use Rattle.ct_box.proofs.reducing.lent.Given as goal

abbrev pub invariant-loop-point : goal.invariant-loop-point
invariant-loop-point l = points_seen l.all.items ≡ take l.point-index l.points
