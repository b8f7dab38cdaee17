-- The jobs in a map from grades to their pairs.
use Rattle.std.specs.Prelude.{ℕ, List, ◌∷◌, map, flat_map}
use Rattle.ct_instance.specs.declared.jobs.Job.{Job}
use Rattle.ct_instance.specs.declared.jobs.Job.TheVariants.{Pair}
use Rattle.ct_jobs.specs.declared.graded.GradedJob.{GradedJob}
use Rattle.ct_jobs.specs.declared.one_grade.OneGrade.{OneGrade}

-- a pair with its grade
abbrev pub graded_pair : ℕ → ℕ × ℕ → GradedJob
graded_pair g p = record { grade = g; job = Pair p.0 p.1 }

-- the pairs of one grade
abbrev pub pairs_in : OneGrade → List (ℕ × ℕ)
pairs_in v = v.first ∷ v.rest.items

-- the same as jobs
abbrev pub jobs_in : OneGrade → List Job
jobs_in v = map (λ p. Pair p.0 p.1) (pairs_in v)

-- the pairs of an entry, with their grade
abbrev pub graded_in : ℕ × OneGrade → List GradedJob
graded_in e = map (graded_pair e.0) (pairs_in e.1)

-- the pairs of all entries, with their grades
abbrev pub graded_entries : List (ℕ × OneGrade) → List GradedJob
graded_entries es = flat_map graded_in es
