-- What is kept of a generator and of a pair, as jobs with their grades.
use Rattle.ct_instance.specs.declared.jobs.Job.TheVariants.{Generator, Pair}
use Rattle.ct_jobs.specs.declared.graded.GradedJob.{GradedJob}
use Rattle.ct_jobs.specs.declared.graded.GradedGenerator.{GradedGenerator}
use Rattle.ct_jobs.specs.declared.graded.GradedPair.{GradedPair}

abbrev pub generator_of : GradedGenerator → GradedJob
generator_of g = record { grade = g.grade; job = Generator g.column }

abbrev pub pair_of : GradedPair → GradedJob
pair_of p = record { grade = p.grade; job = Pair p.first p.second }
