use Rattle.std.proofs.Common.{◌≡◌, ◌++◌, map, take, drop}
use Rattle.ct_best.proofs.best_list.cut.Given as goal

abbrev pub invariant-loop-k : goal.invariant-loop-k
invariant-loop-k l = l.points.items ≡ map (take l.columns) (take l.k l.initial.points.items) ++ drop l.k l.initial.points.items
