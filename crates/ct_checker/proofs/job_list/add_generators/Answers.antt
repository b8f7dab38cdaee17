use Rattle.std.proofs.Common.{ℕ, ◌+◌, ◌++◌, ◌∷◌, [], ap, ◌∙◌, arith}
use Rattle.ct_instance.specs.declared.jobs.Job.TheVariants.{Generator}
use Rattle.ct_checker.specs.JobList.{graded_up_to}
use Rattle.ct_checker.proofs.ByGrade.{number_more}
use Rattle.ct_checker.proofs.job_list.add_generators.Goals as goal

pub loop-j-preserved : goal.loop-j-preserved
loop-j-preserved c =
    let i = c.args.inst.now in
    let ms = c.args.moves.now.moves in
    let g : ℕ = c.args.limit in
    c.in_ok-add_job.ensures ∙ ap (λ l. l ++ graded_up_to i ms g (Generator (c.loop-j.j + 1) ∷ [])) c.loop-j.invariant ∙
    number_more i ms g Generator 0 c.loop-j.j (omega arith) c.args.jobs.now.items
