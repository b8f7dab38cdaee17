use Rattle.std.proofs.Common.{◌≡◌, ◌+◌, ◌≤◌, [], length, sym, ap, subst, ◌∙◌, arith}
use Rattle.std.specs.Arc.{arc_value}
use Rattle.ct_instance.specs.Instance.{Problem}
use Rattle.ct_instance.specs.Versions.{level_of}
use Rattle.ct_levels.proofs.Levels.{list_zero}
use Rattle.ct_jobs.specs.GradedJobs.{AreJobsOf}
use Rattle.ct_completion.specs.Machine.{opened_jobs}
use Rattle.ct_version.specs.Editions.{Edition, IsEdition, level_seen}
use Rattle.ct_book.specs.Insides.{fresh}
use Rattle.ct_book.proofs.OpeningGrades.{level_at_zero, queue_at_zero, zero_book, zero_seen}
use Rattle.ct_book.proofs.books.Book.open.Goals as goal
use Rattle.ct_book.proofs.books.Book.open.Goals.{After-new-2, After-number-number}

pub new-requires-3-clause-list : goal.new-requires-3-clause-list
new-requires-3-clause-list c = c.new-2.ensures.moves ∙ sym (list_zero c.new-2.result.instance)

pub new-requires-3-clause-level : goal.new-requires-3-clause-level
new-requires-3-clause-level c =
    let are : AreJobsOf (arc_value c.args.inst) [] c.in_ok-buckets.buckets.jobs = subst (λ (i : Problem). AreJobsOf i [] c.in_ok-buckets.buckets.jobs) c.deref.ensures c.in_ok-buckets.ensures in
    level_at_zero (arc_value c.args.inst) c.in_ok-buckets.buckets.jobs c.none.result are c.none.ensures (level_seen c.in_ok-finished.field-0.finished) c.in_ok-finished.ensures.level ∙
    ap (λ (i : Problem). level_of i 0) (sym c.new-2.ensures.instance)

version_is : (c : After-number-number) → arc_value c.in_ok-version.version ≡ record { instance = arc_value c.args.inst; number = 0 }
version_is c = c.in_ok-version.ensures ∙ c.new-3.ensures ∙ ap (λ (i : Problem). first_of i) c.new-2.ensures.instance
  where
    first_of : Problem → Edition
    first_of i = record { instance = i; number = 0 }

queue_is : (c : After-number-number) → c.in_ok-finished.field-0.queue ≡ fresh (opened_jobs (arc_value c.args.inst) 0)
queue_is c =
    let are : AreJobsOf (arc_value c.args.inst) [] c.in_ok-buckets.buckets.jobs = subst (λ (i : Problem). AreJobsOf i [] c.in_ok-buckets.buckets.jobs) c.deref.ensures c.in_ok-buckets.ensures in
    queue_at_zero (arc_value c.args.inst) c.in_ok-buckets.buckets.jobs c.none.result are c.none.ensures c.in_ok-finished.field-0.queue c.in_ok-finished.ensures.jobs

pub invariant_of-result : goal.invariant_of-result
invariant_of-result c =
    let are : AreJobsOf (arc_value c.args.inst) [] c.in_ok-buckets.buckets.jobs = subst (λ (i : Problem). AreJobsOf i [] c.in_ok-buckets.buckets.jobs) c.deref.ensures c.in_ok-buckets.ensures in
    let level : level_seen c.in_ok-finished.field-0.finished ≡ level_of (arc_value c.args.inst) 0 =
    level_at_zero (arc_value c.args.inst) c.in_ok-buckets.buckets.jobs c.none.result are c.none.ensures (level_seen c.in_ok-finished.field-0.finished) c.in_ok-finished.ensures.level in
    let room : length c.in_ok-finished.field-0.queue.jobs + 1 ≤ c.in_ok-log.log.room = omega (arith, c.in_ok-log.ensures.room, c.len.ensures.count) in
    zero_book (arc_value c.args.inst) (arc_value c.in_ok-version.version) (version_is c) (subst IsEdition c.deref-2.ensures c.number-number.ensures.version)
    c.args.limit c.requires.most c.in_ok-levels.levels.items c.in_ok-finished.field-0.finished c.in_ok-levels.ensures level c.in_ok-buckets.buckets.jobs are
    c.in_ok-finished.field-0.queue (queue_is c) c.in_ok-log.log c.in_ok-log.ensures.entries room

pub returns : goal.returns
returns c =
    zero_seen (arc_value c.args.inst) (arc_value c.in_ok-version.version) (version_is c) c.args.limit c.args.passes c.in_ok-levels.levels.items c.in_ok-buckets.buckets.jobs
    c.in_ok-finished.field-0.queue (queue_is c) c.in_ok-log.log c.in_ok-log.ensures.entries c.in_ok-log.ensures.passes
