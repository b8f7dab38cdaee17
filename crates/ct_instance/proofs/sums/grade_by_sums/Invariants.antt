use Rattle.std.proofs.Common.{◌≡◌, ◌+◌, drop}
use Rattle.ct_instance.specs.Instance.{weighted}
use Rattle.ct_instance.proofs.sums.grade_by_sums.Given as goal

abbrev pub invariant-loop-j : goal.invariant-loop-j
invariant-loop-j l = l.sum + weighted (drop l.j l.sums) (drop l.j l.p) ≡ weighted l.sums l.p
