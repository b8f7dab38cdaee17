use Rattle.std.proofs.Common.{ℕ, ◌+◌, ◌-◌, ◌≤◌, ◌<◌, [], length, subst, ◌∙◌, arith}
use Rattle.std.specs.Arc.{arc_value}
use Rattle.ct_vectors.specs.declared.limits.TheConstants.{GRADE_LIMIT}
use Rattle.ct_vectors.specs.Vectors.{total}
use Rattle.ct_instance.specs.Instance.{Problem, IsInstance}
use Rattle.ct_instance.proofs.Points.{right-total}
use Rattle.ct_box.specs.Brought.{AreBrought}
use Rattle.ct_box.specs.Completing.{IsBeyond}
use Rattle.ct_jobs.specs.GradedJobs.{AreJobsOf, next_grade}
use Rattle.ct_box.proofs.BoxRuns.{IsNext, run_begins, run_steps, run_fills, run_ends, run_rises}
use Rattle.ct_box.proofs.filling.complete_box.Goals as goal

pub sum-most-requires : goal.sum-most-requires
sum-most-requires c =
    let most : total c.args.beta.now ≤ GRADE_LIMIT =
    right-total (arc_value c.args.inst.now) (subst IsInstance c.deref.ensures c.rows-rows.ensures.instance) c.args.beta.now c.requires.right c.requires.right_limit in
    omega (arith, most)

pub loop-grade-init : goal.loop-grade-init
loop-grade-init c =
    run_begins (arc_value c.args.inst.now) (subst IsInstance c.deref.ensures c.rows-rows.ensures.instance) c.args.beta.now c.args.limit c.new-moves.result
    (c.new-moves.ensures.instance ∙ c.in_ok-try_clone.ensures) c.new-moves.ensures.moves c.in_ok-buckets.buckets.jobs (subst (λ (x : Problem). AreJobsOf x [] c.in_ok-buckets.buckets.jobs) c.deref-2.ensures c.in_ok-buckets.ensures)

pub moves_brought-requires-clause-grade : goal.moves_brought-requires-clause-grade
moves_brought-requires-clause-grade c =
    let most : total c.args.beta.now ≤ GRADE_LIMIT =
    right-total (arc_value c.args.inst.now) (subst IsInstance c.deref.ensures c.rows-rows.ensures.instance) c.args.beta.now c.requires.right c.requires.right_limit in
    let within : c.in-Some.grade ≤ c.sum-most.result = c.in-Some.ensures.some.1 in
    omega (arith, most, within, c.sum-most.ensures)

pub returns-then-len-limit-clause-done : goal.returns-then-len-limit-clause-done
returns-then-len-limit-clause-done c =
    let i : Problem = arc_value c.args.inst.now in
    let m = c.loop-grade.moves in
    let new = c.in_ok-new.new.items in
    let d : ℕ = c.in-Some.grade in
    let more : c.args.limit < length m.moves + length new = omega (arith, c.if-len-limit.true, c.len.ensures.count, c.len-in-Some.ensures) in
    let next : IsNext i c.args.beta.now c.loop-grade.last d m.moves new c.loop-grade.buckets.jobs = record {
      next = c.in-Some.ensures.some.0;
      within = let within : d ≤ c.sum-most.result = c.in-Some.ensures.some.1 in omega (arith, within, c.sum-most.ensures);
      brought = subst (λ (x : Problem). AreBrought x c.args.beta.now m.moves d new) c.loop-grade.invariant.instance c.in_ok-new.ensures.brought;
    } in
    run_fills i (subst IsInstance c.deref.ensures c.rows-rows.ensures.instance) c.args.beta.now c.args.limit c.loop-grade.last m c.loop-grade.buckets.jobs c.loop-grade.invariant d new next more

pub loop-grade-smaller : goal.loop-grade-smaller
loop-grade-smaller c =
    let i : Problem = arc_value c.args.inst.now in
    let rises : c.loop-grade.last < c.in-Some.grade =
    run_rises i (subst IsInstance c.deref.ensures c.rows-rows.ensures.instance) c.args.beta.now c.args.limit c.loop-grade.last c.loop-grade.moves c.loop-grade.buckets.jobs c.loop-grade.invariant c.in-Some.grade c.in-Some.ensures.some.0 in
    let within : c.in-Some.grade ≤ c.sum-most.result = c.in-Some.ensures.some.1 in
    let smaller : c.sum-most.result + 1 - c.in-Some.grade < c.sum-most.result + 1 - c.loop-grade.last = omega (arith, rises, within) in
    smaller

pub loop-grade-preserved : goal.loop-grade-preserved
loop-grade-preserved c =
    let i : Problem = arc_value c.args.inst.now in
    let m = c.loop-grade.moves in
    let new = c.in_ok-new.new.items in
    let d : ℕ = c.in-Some.grade in
    let few : length m.moves + length new ≤ c.args.limit = omega (arith, c.if-len-limit.false, c.len.ensures.count, c.len-in-Some.ensures) in
    let next : IsNext i c.args.beta.now c.loop-grade.last d m.moves new c.loop-grade.buckets.jobs = record {
      next = c.in-Some.ensures.some.0;
      within = let within : d ≤ c.sum-most.result = c.in-Some.ensures.some.1 in omega (arith, within, c.sum-most.ensures);
      brought = subst (λ (x : Problem). AreBrought x c.args.beta.now m.moves d new) c.loop-grade.invariant.instance c.in_ok-new.ensures.brought;
    } in
    run_steps i (subst IsInstance c.deref.ensures c.rows-rows.ensures.instance) c.args.beta.now c.args.limit c.loop-grade.last m c.loop-grade.buckets.jobs c.loop-grade.invariant d new next few
    c.in_ok-moves.moves c.in_ok-moves.ensures.list c.grown.new.buckets.jobs c.in_ok-moves.ensures.jobs

pub returns-clause-done : goal.returns-clause-done
returns-clause-done c =
    run_ends (arc_value c.args.inst.now) (subst IsInstance c.deref.ensures c.rows-rows.ensures.instance) c.args.beta.now c.args.limit c.loop-grade.last c.loop-grade.moves c.loop-grade.buckets.jobs c.loop-grade.invariant
    (subst (λ (n : ℕ). IsBeyond n (next_grade c.loop-grade.last c.loop-grade.buckets.jobs)) c.sum-most.ensures c.in_default.ensures.none)
