use Rattle.std.proofs.Common.{ℕ, ◌≡◌, ◌++◌, length, map, flat_map, ap, ◌∙◌}
use Rattle.ct_instance.specs.declared.jobs.Job.TheVariants.{Generator, Pair}
use Rattle.ct_instance.specs.Jobs.{numbers_after}
use Rattle.ct_checker.specs.JobList.{graded_up_to}
use Rattle.std.proofs.Common.{rules}
use Rattle.std.proofs.lemmas.List.Sorted.{IsNonDecreasingBy-from_sort_by_key, answers_always}
use Rattle.ct_instance.specs.Instance.{column_count}
use Rattle.ct_instance.specs.Jobs.{all_jobs}
use Rattle.ct_jobs.specs.declared.graded.GradedJob.{GradedJob}
use Rattle.ct_checker.proofs.ByGrade.{all_graded, sorted_jobs}
use Rattle.ct_checker.proofs.job_list.list_jobs.Goals as goal

pub returns : goal.returns
returns c =
    let i = c.args.inst.now in
    let ms = c.args.moves.now.moves in
    let g : ℕ = c.args.limit in
    let pairs = flat_map (λ a. map (Pair a) (numbers_after a (length ms))) (numbers_after 0 (length ms)) in
    let listed : c.add_pairs.new.jobs.items ≡ graded_up_to i ms g (all_jobs i ms) =
    c.in_ok-add_pairs.ensures ∙
    ap (λ l. l ++ graded_up_to i ms g pairs) (c.in_ok-add_generators.ensures ∙ ap (λ l. l ++ graded_up_to i ms g (map Generator (numbers_after 0 (column_count i)))) c.new-jobs.ensures.items) ∙
    all_graded i ms g in
    sorted_jobs i ms g c.add_pairs.new.jobs.items c.sort_by_key.new.self.items listed c.sort_by_key.ensures.permutation
    (IsNonDecreasingBy-from_sort_by_key (λ (j : GradedJob). j.grade) _ c.in_ok-sort_by_key.ensures.sorted (λ a r q k. search rules))
    (c.sort_by_key.ensures.stable (λ (j : GradedJob). j.grade) (answers_always _ _ _ (λ f a r q k. search rules)))
