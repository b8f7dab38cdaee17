use Rattle.std.proofs.Common.{◌≡◌, map, take}
use Rattle.ct_vectors.specs.Vectors.{total}
use Rattle.ct_instance.proofs.making.sums_of.Given as goal

abbrev pub invariant-loop-c : goal.invariant-loop-c
invariant-loop-c l = l.sums.items ≡ map total (take l.c-index l.columns)
