use Rattle.std.proofs.Common.{ℕ, ◌≡◌, ◌++◌, List, IsPermutation, map, sym, ap, ap₂, subst, ◌∙◌}
use Rattle.ct_instance.specs.declared.jobs.Job.{Job}
use Rattle.ct_jobs.specs.GradedJobs.{of_grade}
use Rattle.ct_jobs.specs.Kept.{generator_of, pair_of}
use Rattle.ct_jobs.proofs.JobOrder.{in_job_order}
use Rattle.ct_jobs.proofs.NextGrades.{of_grade-append}
use Rattle.ct_jobs.proofs.OneGrade.{jobs_are_listed}
use Rattle.ct_jobs.proofs.buckets.Buckets.jobs_with.Goals as goal

pub returns-clause-order : goal.returns-clause-order
returns-clause-order c = in_job_order c.sort.new.self.items c.in_ok-sort.ensures.sorted

pub returns-clause-exact : goal.returns-clause-exact
returns-clause-exact c i ms a =
    let g : ℕ = c.args.grade in
    let all : List Job = of_grade g (c.args.self.now.jobs ++ c.args.more.now) in
    let one = map generator_of c.self.inside.generators.items in
    let two = c.self.inside.merged in
    let three = map pair_of c.self.inside.parked.items in
    let first : c.gather.new.out.items ≡ of_grade g one =
    c.in_ok-gather.ensures ∙ ap (λ l. l ++ of_grade g (map generator_of c.deref.result.now)) c.new-jobs.ensures.items ∙ ap (λ l. of_grade g (map generator_of l)) c.deref.ensures.value in
    let second : c.gather_pairs.new.out.items ≡ of_grade g (one ++ two) =
    c.in_ok-gather_pairs.ensures ∙ ap (λ l. l ++ of_grade g two) first ∙ sym (of_grade-append g one two) in
    let third : c.gather-2.new.out.items ≡ of_grade g ((one ++ two) ++ three) =
    c.in_ok-gather-2.ensures ∙ ap₂ ◌++◌ second (ap (λ l. of_grade g (map pair_of l)) c.deref-2.ensures.value) ∙ sym (of_grade-append g (one ++ two) three) in
    let fourth : c.gather-3.new.out.items ≡ all =
    c.in_ok-gather-3.ensures ∙ ap₂ ◌++◌ (third ∙ ap (λ s. of_grade g s.jobs) c.self.view_is) (ap (of_grade g) c.as_slice.ensures) ∙
    sym (of_grade-append g c.args.self.now.jobs c.args.more.now) in
    jobs_are_listed i ms g (c.args.self.now.jobs ++ c.args.more.now) c.sort.new.self.items a
    (subst (λ l. IsPermutation l c.sort.new.self.items) fourth c.in_ok-sort.ensures.permutation)
    (in_job_order c.sort.new.self.items c.in_ok-sort.ensures.sorted)
