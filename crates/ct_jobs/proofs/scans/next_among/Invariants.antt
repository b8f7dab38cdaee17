use Rattle.std.proofs.Common.{◌≡◌, map, take}
use Rattle.ct_jobs.specs.GradedJobs.{next_grade}
use Rattle.ct_jobs.proofs.scans.next_among.Given as goal

abbrev pub invariant-loop-entry : goal.invariant-loop-entry
invariant-loop-entry g l = l.least ≡ next_grade l.above (map g.G.Graded.graded_of (take l.entry-index l.jobs))
