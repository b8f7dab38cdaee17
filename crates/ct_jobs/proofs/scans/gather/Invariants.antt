use Rattle.std.proofs.Common.{◌≡◌, ◌++◌, map, take}
use Rattle.ct_jobs.specs.GradedJobs.{of_grade}
use Rattle.ct_jobs.proofs.scans.gather.Given as goal

abbrev pub invariant-loop-entry : goal.invariant-loop-entry
invariant-loop-entry g l = l.out.items ≡ l.initial.out.items ++ of_grade l.grade (map g.G.Graded.graded_of (take l.entry-index l.jobs))
