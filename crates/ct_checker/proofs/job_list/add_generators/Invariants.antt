use Rattle.std.proofs.Common.{◌≡◌, ◌++◌, map}
use Rattle.ct_instance.specs.declared.jobs.Job.TheVariants.{Generator}
use Rattle.ct_instance.specs.Jobs.{numbers_after}
use Rattle.ct_checker.specs.JobList.{graded_up_to}
use Rattle.ct_checker.proofs.job_list.add_generators.Given as goal

abbrev pub invariant-loop-j : goal.invariant-loop-j
invariant-loop-j l = l.jobs.items ≡ l.initial.jobs.items ++ graded_up_to l.inst l.moves.moves l.limit (map Generator (numbers_after 0 l.j))
