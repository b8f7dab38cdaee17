use Rattle.std.proofs.Common.{◌≡◌, ◌++◌, ◌∷◌, ℕ, map, take}
use Rattle.ct_instance.specs.declared.jobs.Job.TheVariants.{Pair}
use Rattle.ct_jobs.proofs.by_grade.push_pairs.Given as goal

abbrev pub invariant-loop-pair : goal.invariant-loop-pair
invariant-loop-pair l = l.out.items ≡ l.fn.out.items ++ map (λ (p : ℕ × ℕ). Pair p.0 p.1) (l.fn.pairs.first ∷ take l.pair-index l.fn.pairs.rest.items)
