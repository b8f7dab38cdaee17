use Rattle.std.proofs.Common.{ℕ, ◌≡◌, ◌+◌, ◌++◌, ◌∷◌, [], length, map, ap, ◌∙◌, arith}
use Rattle.ct_instance.specs.declared.jobs.Job.TheVariants.{Pair}
use Rattle.ct_instance.specs.Jobs.{numbers_after}
use Rattle.ct_checker.specs.JobList.{graded_up_to}
use Rattle.ct_checker.proofs.ByGrade.{number_more}
use Rattle.ct_checker.proofs.job_list.add_row.Goals as goal

pub loop-k-preserved : goal.loop-k-preserved
loop-k-preserved c =
    let i = c.args.inst.now in
    let ms = c.args.moves.now.moves in
    let g : ℕ = c.args.limit in
    let a : ℕ = c.args.i in
    c.in_ok-add_job.ensures ∙ ap (λ l. l ++ graded_up_to i ms g (Pair a (c.loop-k.k + 1) ∷ [])) c.loop-k.invariant ∙
    number_more i ms g (Pair a) a c.loop-k.k c.loop-k.auto.k c.args.jobs.now.items

pub returns : goal.returns
returns c =
    let e : c.loop-k.k ≡ length c.args.moves.now.moves = omega arith in
    c.loop-k.invariant ∙ ap (λ n. c.args.jobs.now.items ++ graded_up_to c.args.inst.now c.args.moves.now.moves c.args.limit (map (Pair c.args.i) (numbers_after c.args.i n))) e
