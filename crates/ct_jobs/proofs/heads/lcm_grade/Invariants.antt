use Rattle.std.proofs.Common.{◌≡◌, ◌+◌, drop}
use Rattle.ct_vectors.specs.Vectors.{lcm}
use Rattle.ct_instance.specs.Instance.{weighted}
use Rattle.ct_jobs.proofs.heads.lcm_grade.Given as goal

abbrev pub invariant-loop-j : goal.invariant-loop-j
invariant-loop-j l = l.sum + weighted (drop l.j l.sums) (drop l.j (lcm l.p l.q)) ≡ weighted l.sums (lcm l.p l.q)
