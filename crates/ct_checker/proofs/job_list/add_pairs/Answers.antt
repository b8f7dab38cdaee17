use Rattle.std.proofs.Common.{ℕ, ◌+◌, ◌++◌, length, map, ap, ◌∙◌}
use Rattle.ct_instance.specs.declared.jobs.Job.TheVariants.{Pair}
use Rattle.ct_instance.specs.Jobs.{numbers_after}
use Rattle.ct_checker.specs.JobList.{graded_up_to}
use Rattle.ct_checker.proofs.ByGrade.{row_more}
use Rattle.ct_checker.proofs.job_list.add_pairs.Goals as goal

pub loop-i-preserved : goal.loop-i-preserved
loop-i-preserved c =
    let i = c.args.inst.now in
    let ms = c.args.moves.now.moves in
    let g : ℕ = c.args.limit in
    let n : ℕ = length ms in
    c.in_ok-add_row.ensures ∙ ap (λ l. l ++ graded_up_to i ms g (map (Pair (c.loop-i.i + 1)) (numbers_after (c.loop-i.i + 1) n))) c.loop-i.invariant ∙
    row_more i ms g (λ a. map (Pair a) (numbers_after a n)) c.loop-i.i c.args.jobs.now.items
