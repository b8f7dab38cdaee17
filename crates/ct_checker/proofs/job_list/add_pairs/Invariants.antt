use Rattle.std.proofs.Common.{◌≡◌, ◌++◌, map, flat_map, length}
use Rattle.ct_instance.specs.declared.jobs.Job.TheVariants.{Pair}
use Rattle.ct_instance.specs.Jobs.{numbers_after}
use Rattle.ct_checker.specs.JobList.{graded_up_to}
use Rattle.ct_checker.proofs.job_list.add_pairs.Given as goal

abbrev pub invariant-loop-i : goal.invariant-loop-i
invariant-loop-i l = l.jobs.items ≡ l.initial.jobs.items ++ graded_up_to l.inst l.moves.moves l.limit (flat_map (λ a. map (Pair a) (numbers_after a (length l.moves.moves))) (numbers_after 0 l.i))
