use Rattle.std.proofs.Common.{◌≡◌, ◌+◌, ◌++◌, ◌∷◌, [], ℕ, List, true≢false, sym, ap, subst, ◌∙◌, arith}
use Rattle.ct_instance.specs.declared.jobs.Job.TheVariants.{Generator}
use Rattle.ct_instance.specs.Instance.{column_count}
use Rattle.ct_instance.specs.Jobs.{job_grade_of}
use Rattle.ct_jobs.specs.declared.graded.GradedJob.{GradedJob}
use Rattle.ct_jobs.proofs.Rows.{generators_all}
use Rattle.ct_solo.specs.Agendas.{graded, IsAgenda}
use Rattle.ct_solo.proofs.Fillings.{generators_to, one_generator_more}
use Rattle.ct_solo.proofs.filling.take_generators.Goals as goal

pub loop-j-preserved : goal.loop-j-preserved
loop-j-preserved c =
    let i = c.args.moves.now.instance in
    let j : ℕ = c.loop-j.j in
    let new = c.take_in.new.self in
    let grade : c.job_grade.result ≡ job_grade_of i [] (Generator (j + 1)) =
    c.job_grade.ensures ∙ ap (λ p. job_grade_of p [] (Generator (j + 1))) (c.deref-in-loop-j.ensures ∙ c.instance-in-loop-j.ensures.instance) in
    record {
      taken = λ h. one_generator_more i j new
          (subst (λ (g : ℕ). IsAgenda [] (generators_to i j ++ graded g (Generator (j + 1)) ∷ []) new) grade
          (c.in_ok-take_in.ensures.taken [] (generators_to i j) (λ t. absurd (true≢false (sym t))) (c.loop-j.invariant.taken h)));
      opened = c.take_in.ensures.opened ∙ c.loop-j.invariant.opened;
      top = c.take_in.ensures.top ∙ c.loop-j.invariant.top;
    }

pub returns-clause-taken : goal.returns-clause-taken
returns-clause-taken c h =
    let i = c.args.moves.now.instance in
    let same : column_count c.deref.result.now ≡ column_count i = ap column_count (c.deref.ensures ∙ c.instance.ensures.instance) in
    let e : c.loop-j.j ≡ column_count i = omega (arith, same, c.columns-count.ensures.columns) in
    subst (λ (js : List GradedJob). IsAgenda [] js c.loop-j.agenda) (ap (generators_to i) e ∙ sym (generators_all i)) (c.loop-j.invariant.taken h)
