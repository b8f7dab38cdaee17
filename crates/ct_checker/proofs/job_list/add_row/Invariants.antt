use Rattle.std.proofs.Common.{◌≡◌, ◌++◌, map}
use Rattle.ct_instance.specs.declared.jobs.Job.TheVariants.{Pair}
use Rattle.ct_instance.specs.Jobs.{numbers_after}
use Rattle.ct_checker.specs.JobList.{graded_up_to}
use Rattle.ct_checker.proofs.job_list.add_row.Given as goal

abbrev pub invariant-loop-k : goal.invariant-loop-k
invariant-loop-k l = l.jobs.items ≡ l.initial.jobs.items ++ graded_up_to l.inst l.moves.moves l.limit (map (Pair l.i) (numbers_after l.i l.k))
