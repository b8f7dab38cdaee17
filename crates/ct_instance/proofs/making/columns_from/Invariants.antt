use Rattle.std.proofs.Common.{◌≡◌, map}
use Rattle.ct_instance.specs.Made.{column_of, indices}
use Rattle.ct_instance.proofs.making.columns_from.Given as goal

abbrev pub invariant-loop-j : goal.invariant-loop-j
invariant-loop-j l = l.points.items ≡ map (λ j. column_of l.rows l.columns j l.entries) (indices l.j)
