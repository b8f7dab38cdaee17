use Rattle.std.proofs.Common.{◌≡◌, [], map}
use Rattle.ct_instance.specs.declared.jobs.Job.TheVariants.{Generator}
use Rattle.ct_instance.specs.Jobs.{numbers_after}
use Rattle.ct_jobs.specs.GradedJobs.{with_grade}
use Rattle.ct_jobs.specs.Kept.{generator_of}
use Rattle.ct_jobs.proofs.buckets.Buckets.new.Given as goal

abbrev pub invariant-loop-j : goal.invariant-loop-j
invariant-loop-j l = map generator_of l.generators.items ≡ map (with_grade l.inst []) (map Generator (numbers_after 0 l.j))
