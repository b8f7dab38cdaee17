use Rattle.std.proofs.Common.{◌≡◌, ℕ, ◌+◌, ◌-◌, ◌≤◌, ◌++◌, sym, ap, ap₂, subst₂, ◌∙◌, arith, suc}
use Rattle.ct_vectors.specs.declared.limits.TheConstants.{GRADE_LIMIT}
use Rattle.ct_instance.specs.Versions.{level_of, version_list, IsVersion}
use Rattle.ct_jobs.specs.GradedJobs.{AreJobsOf}
use Rattle.ct_version.specs.Editions.{level_seen}
use Rattle.ct_book.proofs.NextVersions.{IsNext, after_instance, next_is_version, next_number, next_jobs, next_level, next_queue, same_level}
use Rattle.ct_book.proofs.publishing.next_version.Goals as goal

pub new-requires-clause-version : goal.new-requires-clause-version
new-requires-clause-version c =
    let n : IsNext c.args.version.now c.moves-before.result.now c.in_ok-moves.moves c.args.new.items = record { level = c.requires.opens.0; opens = c.requires.opens.1; small = c.requires.opens.2; instance = c.moves-before.ensures.instance; list = c.moves-before.ensures.list; extended = c.in_ok-moves.ensures; next = c.requires.list } in
    let number : suc c.args.version.now.number ≡ c.number.result + 1 = omega (arith, c.number.ensures.number) in
    subst₂ IsVersion (sym (after_instance c.args.version.now c.moves-before.result.now c.in_ok-moves.moves c.args.new.items n)) number
    (next_is_version c.args.version.now c.moves-before.result.now c.in_ok-moves.moves c.args.new.items n)

pub new-requires-clause-small : goal.new-requires-clause-small
new-requires-clause-small c =
    let n : IsNext c.args.version.now c.moves-before.result.now c.in_ok-moves.moves c.args.new.items = record { level = c.requires.opens.0; opens = c.requires.opens.1; small = c.requires.opens.2; instance = c.moves-before.ensures.instance; list = c.moves-before.ensures.list; extended = c.in_ok-moves.ensures; next = c.requires.list } in
    let most : suc c.args.version.now.number ≤ GRADE_LIMIT = next_number c.args.version.now c.moves-before.result.now c.in_ok-moves.moves c.args.new.items n in
    omega (arith, most, c.number.ensures.number)

pub new-requires-clause-level : goal.new-requires-clause-level
new-requires-clause-level c =
    let n : IsNext c.args.version.now c.moves-before.result.now c.in_ok-moves.moves c.args.new.items = record { level = c.requires.opens.0; opens = c.requires.opens.1; small = c.requires.opens.2; instance = c.moves-before.ensures.instance; list = c.moves-before.ensures.list; extended = c.in_ok-moves.ensures; next = c.requires.list } in
    let are : AreJobsOf c.args.version.now.instance (version_list c.args.version.now.instance (suc c.args.version.now.number)) (c.args.buckets.now.jobs ++ c.in_ok-more.more) =
    next_jobs c.args.version.now c.moves-before.result.now c.in_ok-moves.moves c.args.new.items n c.args.buckets.now.jobs c.in_ok-more.more c.deref.result.now (c.len.result + 1) c.requires.buckets
    (c.deref.ensures ∙ c.instance.ensures.instance) (ap (λ (k : ℕ). k + 1) c.len.ensures.count) c.in_ok-more.ensures in
    let before : c.behind-next.result - 1 ≡ c.requires.opens.0 = same_level (c.behind-next.result - 1) c.requires.opens.0 (sym (sym c.finished.ensures ∙ c.behind-next.ensures.level) ∙ c.requires.opens.1) in
    let at : c.behind-next.result ≡ c.requires.opens.0 + 1 = omega (arith, c.behind-next.ensures.some) in
    let number : suc c.args.version.now.number ≡ c.number.result + 1 = omega (arith, c.number.ensures.number) in
    next_level c.args.version.now c.moves-before.result.now c.in_ok-moves.moves c.args.new.items n (c.args.buckets.now.jobs ++ c.in_ok-more.more) c.behind-next.result (level_seen c.in_ok-finished.field-0.finished) are at c.in_ok-finished.ensures.level ∙
    ap₂ level_of (sym (after_instance c.args.version.now c.moves-before.result.now c.in_ok-moves.moves c.args.new.items n)) number

pub returns-clause-more : goal.returns-clause-more
returns-clause-more c =
    let n : IsNext c.args.version.now c.moves-before.result.now c.in_ok-moves.moves c.args.new.items = record { level = c.requires.opens.0; opens = c.requires.opens.1; small = c.requires.opens.2; instance = c.moves-before.ensures.instance; list = c.moves-before.ensures.list; extended = c.in_ok-moves.ensures; next = c.requires.list } in
    let are : AreJobsOf c.args.version.now.instance (version_list c.args.version.now.instance (suc c.args.version.now.number)) (c.args.buckets.now.jobs ++ c.in_ok-more.more) =
    next_jobs c.args.version.now c.moves-before.result.now c.in_ok-moves.moves c.args.new.items n c.args.buckets.now.jobs c.in_ok-more.more c.deref.result.now (c.len.result + 1) c.requires.buckets
    (c.deref.ensures ∙ c.instance.ensures.instance) (ap (λ (k : ℕ). k + 1) c.len.ensures.count) c.in_ok-more.ensures in
    are

pub returns-clause-queue : goal.returns-clause-queue
returns-clause-queue c =
    let n : IsNext c.args.version.now c.moves-before.result.now c.in_ok-moves.moves c.args.new.items = record { level = c.requires.opens.0; opens = c.requires.opens.1; small = c.requires.opens.2; instance = c.moves-before.ensures.instance; list = c.moves-before.ensures.list; extended = c.in_ok-moves.ensures; next = c.requires.list } in
    let are : AreJobsOf c.args.version.now.instance (version_list c.args.version.now.instance (suc c.args.version.now.number)) (c.args.buckets.now.jobs ++ c.in_ok-more.more) =
    next_jobs c.args.version.now c.moves-before.result.now c.in_ok-moves.moves c.args.new.items n c.args.buckets.now.jobs c.in_ok-more.more c.deref.result.now (c.len.result + 1) c.requires.buckets
    (c.deref.ensures ∙ c.instance.ensures.instance) (ap (λ (k : ℕ). k + 1) c.len.ensures.count) c.in_ok-more.ensures in
    let before : c.behind-next.result - 1 ≡ c.requires.opens.0 = same_level (c.behind-next.result - 1) c.requires.opens.0 (sym (sym c.finished.ensures ∙ c.behind-next.ensures.level) ∙ c.requires.opens.1) in
    let at : c.behind-next.result ≡ c.requires.opens.0 + 1 = omega (arith, c.behind-next.ensures.some) in
    next_queue c.args.version.now c.moves-before.result.now c.in_ok-moves.moves c.args.new.items n (c.args.buckets.now.jobs ++ c.in_ok-more.more) c.behind-next.result c.in_ok-finished.field-0.queue are at c.in_ok-finished.ensures.jobs
