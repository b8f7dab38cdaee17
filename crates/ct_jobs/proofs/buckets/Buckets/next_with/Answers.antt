use Rattle.std.proofs.Common.{◌≡◌, ◌++◌, map, sym, ap, ap₂, ◌∙◌}
use Rattle.ct_jobs.specs.GradedJobs.{next_grade, lesser_of}
use Rattle.ct_jobs.specs.Kept.{generator_of, pair_of}
use Rattle.ct_jobs.proofs.NextGrades.{next_grade-append}
use Rattle.ct_jobs.proofs.buckets.Buckets.next_with.Goals as goal

pub returns : goal.returns
returns c =
    let d = c.args.above in
    let one = map generator_of c.self.inside.generators.items in
    let two = c.self.inside.merged in
    let three = map pair_of c.self.inside.parked.items in
    let first : c.lesser-merged.result ≡ next_grade d (one ++ two) =
    c.lesser-merged.ensures ∙ ap₂ lesser_of (c.next_among.ensures ∙ ap (λ l. next_grade d (map generator_of l)) c.deref.ensures.value) c.next_above.ensures ∙ sym (next_grade-append d one two) in
    c.lesser.ensures ∙
    ap₂ lesser_of
    (c.lesser-here.ensures ∙ ap₂ lesser_of first (c.next_among-2.ensures ∙ ap (λ l. next_grade d (map pair_of l)) c.deref-2.ensures.value) ∙ sym (next_grade-append d (one ++ two) three) ∙
    ap (λ s. next_grade d s.jobs) c.self.view_is)
    (c.next_among-3.ensures ∙ ap (next_grade d) c.as_slice.ensures) ∙
    sym (next_grade-append d c.args.self.now.jobs c.args.more.now)
