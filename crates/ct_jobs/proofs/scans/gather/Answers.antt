use Rattle.std.proofs.Common.{ap, ◌∙◌}
use Rattle.ct_jobs.proofs.NextGrades.{gathered-here, gathered-other}
use Rattle.ct_jobs.proofs.scans.gather.Goals as goal
use Rattle.ct_jobs.proofs.scans.gather.Goals.{then-here-grade+in_ok-push, else-here-grade}

pub loop-entry-preserved : goal.loop-entry-preserved
loop-entry-preserved g c =
    let f = g.G.Graded.graded_of in
    let here = c.graded-here.ensures ∙ ap f c.entry-item.is in
    elim c.if-here-grade.branch [
      | then-here-grade+in_ok-push w ↦ ap (λ v. v.items) w.out-is ∙ w.in_ok-push.ensures.items ∙
          gathered-here f c.args.grade c.args.jobs.now c.loop-entry.entry-index c.entry-item.result c.graded-here.result c.args.out.now.items c.loop-entry.out.items c.loop-entry-test.true here c.loop-entry.invariant w.if-here-grade.true
      | else-here-grade w ↦ ap (λ v. v.items) w.out-is ∙
          gathered-other f c.args.grade c.args.jobs.now c.loop-entry.entry-index c.entry-item.result c.graded-here.result c.args.out.now.items c.loop-entry.out.items c.loop-entry-test.true here c.loop-entry.invariant w.if-here-grade.false
    ]
