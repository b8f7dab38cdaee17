use Rattle.std.proofs.Common.{◌≡◌, map, length, flat_map}
use Rattle.ct_instance.specs.Jobs.{numbers_after}
use Rattle.ct_jobs.specs.GradedJobs.{with_grade, row_from}
use Rattle.ct_jobs.specs.Kept.{pair_of}
use Rattle.ct_jobs.proofs.addition.Addition.prepare.Given as goal

abbrev pub invariant-loop-i : goal.invariant-loop-i
invariant-loop-i l = map pair_of l.pairs.items ≡ map (with_grade l.inst l.moves.moves) (flat_map (λ a. row_from l.from a (length l.moves.moves)) (numbers_after 0 l.i))
