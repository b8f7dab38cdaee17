use Rattle.std.proofs.Common.{◌≡◌, ◌+◌, drop}
use Rattle.ct_vectors.specs.Vectors.{lcm, total}
use Rattle.ct_jobs.proofs.heads.lcm_total.Given as goal

abbrev pub invariant-loop-i : goal.invariant-loop-i
invariant-loop-i l = l.sum + total (drop l.i (lcm l.p l.q)) ≡ total (lcm l.p l.q)
