use Rattle.std.proofs.Common.{◌≡◌, drop}
use Rattle.ct_instance.specs.Instance.{degree_of}
use Rattle.ct_instance.proofs.sums.degree_by_columns.Given as goal

abbrev pub invariant-loop-j : goal.invariant-loop-j
invariant-loop-j l = l.degree ≡ degree_of (drop l.j l.columns) (drop l.j l.p)
