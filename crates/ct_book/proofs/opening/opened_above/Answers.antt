use Rattle.std.proofs.Common.{◌≡◌, ◌++◌, ℕ, Option, List, [], ap, ◌∙◌}
use Rattle.std.proofs.lemmas.Result.{IfOk-weaker}
use Rattle.ct_instance.specs.Instance.{Problem}
use Rattle.ct_instance.specs.TestSet.{Binomial}
use Rattle.ct_instance.specs.Jobs.{jobs_at}
use Rattle.ct_jobs.specs.GradedJobs.{next_grade, AreJobsOf}
use Rattle.ct_book.specs.Insides.{fresh}
use Rattle.ct_book.specs.Openings.{jobs_by, ListsJobs}
use Rattle.ct_book.proofs.opening.opened_above.Goals as goal

pub returns-in-None-clause-jobs : goal.returns-in-None-clause-jobs
returns-in-None-clause-jobs c =
    IfOk-weaker c.nothing_opened.result (λ o. o.queue ≡ fresh [])
    (λ o. ListsJobs (c.args.buckets.now.jobs ++ c.args.more.now) (next_grade c.args.above (c.args.buckets.now.jobs ++ c.args.more.now)) o.queue)
    (λ o q i ms are. q ∙ ap (λ (n : Option ℕ). fresh (jobs_by i ms n)) c.in-None.ensures) c.nothing_opened.ensures.jobs

pub returns-in-Some-clause-jobs : goal.returns-in-Some-clause-jobs
returns-in-Some-clause-jobs c =
    IfOk-weaker c.grade_opened.result
    (λ o. (i : Problem) → (ms : List Binomial) → AreJobsOf i ms (c.args.buckets.now.jobs ++ c.args.more.now) → o.queue ≡ fresh (jobs_at i ms c.in-Some.grade))
    (λ o. ListsJobs (c.args.buckets.now.jobs ++ c.args.more.now) (next_grade c.args.above (c.args.buckets.now.jobs ++ c.args.more.now)) o.queue)
    (λ o q i ms are. q i ms are ∙ ap (λ (n : Option ℕ). fresh (jobs_by i ms n)) c.in-Some.ensures) c.grade_opened.ensures.jobs
