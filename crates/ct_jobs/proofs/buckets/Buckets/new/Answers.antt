use Rattle.std.proofs.Common.{◌≡◌, ◌+◌, ◌++◌, ◌∷◌, [], IsPermutation, map, sym, ap, ap₂, subst, ◌∙◌, append-nil, arith}
use Rattle.std.proofs.lemmas.List.{map-append}
use Rattle.std.proofs.lemmas.List.Sorted.{IsPermutation-refl}
use Rattle.ct_instance.specs.declared.jobs.Job.TheVariants.{Generator}
use Rattle.ct_instance.specs.Instance.{column_count}
use Rattle.ct_instance.specs.Jobs.{numbers_after}
use Rattle.ct_jobs.specs.GradedJobs.{with_grade, graded_jobs}
use Rattle.ct_jobs.specs.Kept.{generator_of, pair_of}
use Rattle.ct_jobs.proofs.Rows.{generators_push, generators_all}
use Rattle.ct_jobs.proofs.buckets.Buckets.new.Goals as goal

pub loop-j-preserved : goal.loop-j-preserved
loop-j-preserved c =
    let i = c.args.inst.now in
    ap (map generator_of) c.in_ok-push.ensures.items ∙ map-append generator_of c.loop-j.generators.items (record { grade = c.column_grade.result; column = c.loop-j.j + 1 } ∷ []) ∙
    ap₂ (λ l g. l ++ record { grade = g; job = Generator (c.loop-j.j + 1) } ∷ []) c.loop-j.invariant c.column_grade.ensures ∙
    sym (generators_push i [] c.loop-j.j)

pub returns : goal.returns
returns c =
    let i = c.args.inst.now in
    let gs = map generator_of c.loop-j.generators.items in
    let e : c.loop-j.j ≡ column_count i = omega arith in
    let none : (gs ++ c.new.result) ++ map pair_of c.new-2.result.items ≡ gs =
    ap₂ (λ k l. (gs ++ k) ++ map pair_of l) c.new.ensures c.new-2.ensures.items ∙ append-nil (gs ++ []) ∙ append-nil gs in
    let f : graded_jobs i [] ≡ (gs ++ c.new.result) ++ map pair_of c.new-2.result.items =
    generators_all i ∙ ap (λ n. map (with_grade i []) (map Generator (numbers_after 0 n))) (sym e) ∙ sym c.loop-j.invariant ∙ sym none in
    subst (IsPermutation (graded_jobs i [])) f (IsPermutation-refl (graded_jobs i []))
