use Rattle.std.proofs.Common.{◌+◌, ◌-◌, ◌<◌, ◌++◌, true≢false, sym, subst, ◌∙◌, refl, arith}
use Rattle.ct_instance.specs.TestSet.{test_list}
use Rattle.ct_instance.specs.Versions.{Level, Covers, level_of}
use Rattle.ct_jobs.specs.GradedJobs.{AreJobsOf}
use Rattle.ct_version.specs.Editions.{level_seen}
use Rattle.ct_book.proofs.WholeLists.{beside_none, brought_first, brought_next, level_short, number_short, at_first}
use Rattle.ct_book.proofs.bringing.brought_to.Goals as goal

pub loop-alloc-init : goal.loop-alloc-init
loop-alloc-init c =
    let are : AreJobsOf c.args.inst.now (test_list c.args.inst.now c.args.grade) (c.args.buckets.now.jobs ++ c.none-none.result) =
    beside_none c.args.inst.now (test_list c.args.inst.now c.args.grade) c.args.buckets.now.jobs c.none-none.result c.requires.jobs c.none-none.ensures in
    record {
      brought = brought_first c.args.inst.now c.rows-rows.ensures.instance c.args.grade (c.args.buckets.now.jobs ++ c.none-none.result) are c.in_ok-levels.levels.items
          c.in_ok-finished.field-0.finished c.in_ok-log.log.entries c.in_ok-finished.field-0.queue c.in_ok-levels.ensures c.in_ok-log.ensures.entries
          c.in_ok-finished.ensures.level c.in_ok-finished.ensures.jobs;
      passes = c.in_ok-log.ensures.passes;
    }

pub overflow_add-number : goal.overflow_add-number
overflow_add-number c =
    let short : Covers (level_of c.args.inst.now c.loop-alloc.number) c.args.grade → ⊥ =
    λ k. true≢false (sym (c.covers.ensures.1 (subst (λ (l : Level). Covers l c.args.grade) (sym c.loop-alloc.invariant.brought.level_is) k)) ∙ c.loop-alloc-test.true) in
    omega (arith, number_short c.args.inst.now c.args.grade c.loop-alloc.number short, c.requires.grade)

pub behind-requires : goal.behind-requires
behind-requires c =
    let are : AreJobsOf c.args.inst.now (test_list c.args.inst.now c.args.grade) (c.args.buckets.now.jobs ++ c.none-none.result) =
    beside_none c.args.inst.now (test_list c.args.inst.now c.args.grade) c.args.buckets.now.jobs c.none-none.result c.requires.jobs c.none-none.ensures in
    let short : Covers (level_seen c.loop-alloc.finished) c.args.grade → ⊥ = λ k. true≢false (sym (c.covers.ensures.1 k) ∙ c.loop-alloc-test.true) in
    let level = level_short c.args.inst.now c.rows-rows.ensures.instance c.args.grade (c.args.buckets.now.jobs ++ c.none-none.result) are c.loop-alloc.number c.loop-alloc.levels.items
    c.loop-alloc.log.entries c.loop-alloc.finished c.loop-alloc.queue c.loop-alloc.invariant.brought short in
    (level.0, level.1, omega (arith, level.2, c.requires.grade))

pub loop-alloc-smaller : goal.loop-alloc-smaller
loop-alloc-smaller c =
    let short : Covers (level_of c.args.inst.now c.loop-alloc.number) c.args.grade → ⊥ =
    λ k. true≢false (sym (c.covers.ensures.1 (subst (λ (l : Level). Covers l c.args.grade) (sym c.loop-alloc.invariant.brought.level_is) k)) ∙ c.loop-alloc-test.true) in
    let below : c.loop-alloc.number < c.args.grade = number_short c.args.inst.now c.args.grade c.loop-alloc.number short in
    let smaller : c.args.grade - (c.loop-alloc.number + 1) < c.args.grade - c.loop-alloc.number = omega (arith, below) in
    smaller

pub loop-alloc-preserved : goal.loop-alloc-preserved
loop-alloc-preserved c =
    let are : AreJobsOf c.args.inst.now (test_list c.args.inst.now c.args.grade) (c.args.buckets.now.jobs ++ c.none-none.result) =
    beside_none c.args.inst.now (test_list c.args.inst.now c.args.grade) c.args.buckets.now.jobs c.none-none.result c.requires.jobs c.none-none.ensures in
    let short : Covers (level_seen c.loop-alloc.finished) c.args.grade → ⊥ = λ k. true≢false (sym (c.covers.ensures.1 k) ∙ c.loop-alloc-test.true) in
    record {
      brought = brought_next c.args.inst.now c.rows-rows.ensures.instance c.args.grade (c.args.buckets.now.jobs ++ c.none-none.result) are c.loop-alloc.number c.loop-alloc.levels.items
          c.loop-alloc.log.entries c.loop-alloc.finished c.loop-alloc.queue c.loop-alloc.invariant.brought short (c.loop-alloc.number + 1) c.behind.result refl c.behind.ensures.level
          c.behind.ensures.some c.push.new.self.items c.in_ok-next.next.finished c.write_down.new.log.entries c.in_ok-next.next.queue c.in_ok-push.ensures.items
          c.in_ok-write_down.ensures.entries c.in_ok-next.ensures.level c.in_ok-next.ensures.jobs;
      passes = c.write_down.ensures.passes ∙ c.loop-alloc.invariant.passes;
    }

pub returns-clause-first : goal.returns-clause-first
returns-clause-first c =
    at_first c.args.inst.now c.args.grade c.loop-alloc.number c.loop-alloc.invariant.brought.early
    (subst (λ (l : Level). Covers l c.args.grade) c.loop-alloc.invariant.brought.level_is (c.covers.ensures.0 c.loop-alloc-test.false))
