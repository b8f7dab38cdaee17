use Rattle.std.proofs.Common.{[], ◌∷◌, ap, ◌∙◌}
use Rattle.ct_instance.specs.Versions.{least_above}
use Rattle.ct_jobs.specs.GradedJobs.{lesser_of}
use Rattle.ct_jobs.proofs.NextGrades.{next_grade-take}
use Rattle.ct_jobs.proofs.scans.next_among.Goals as goal

pub loop-entry-preserved : goal.loop-entry-preserved
loop-entry-preserved g c =
    c.lesser-least.ensures ∙ ap (lesser_of c.loop-entry.least) (c.if_above.ensures ∙ ap (λ j. least_above c.args.above (j.grade ∷ [])) (c.graded.ensures ∙ ap g.G.Graded.graded_of c.entry-item.is)) ∙
    next_grade-take g.G.Graded.graded_of c.args.above c.args.jobs.now c.loop-entry.entry-index c.entry-item.result c.loop-entry.least c.loop-entry-test.true c.loop-entry.invariant
