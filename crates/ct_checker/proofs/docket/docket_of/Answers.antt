use Rattle.std.proofs.Common.{ℕ, ◌≡◌, ◌≤◌, map, sym, subst, ap, ◌∙◌}
use Rattle.ct_instance.specs.Instance.{Problem}
use Rattle.ct_instance.specs.Jobs.{jobs_up_to}
use Rattle.ct_jobs.specs.declared.graded.GradedJob.{GradedJob}
use Rattle.ct_vectors.specs.declared.limits.TheConstants.{GRADE_LIMIT}
use Rattle.ct_walk.specs.Moves.{MoveList}
use Rattle.ct_checker.proofs.Entries.{jobs_within}
use Rattle.ct_checker.proofs.docket.docket_of.Goals as goal

pub invariant_of-result : goal.invariant_of-result
invariant_of-result c =
    let i = c.in_ok-moves.moves.instance in
    let ms = c.in_ok-moves.moves.moves in
    let limit : c.grade-2.result ≤ GRADE_LIMIT = subst (λ (g : ℕ). g ≤ GRADE_LIMIT) (sym c.grade-2.ensures.grade) (c.grade-2.ensures.ledger).grade_limit in
    let same : c.deref-2.result.now ≡ i = c.deref-2.ensures ∙ sym (ap (λ (l : MoveList). l.instance) c.in_ok-moves.ensures.moves) in
    let listed : map (λ (j : GradedJob). j.job) c.in_ok-jobs.jobs.items ≡ jobs_up_to i ms c.grade-2.result =
    c.in_ok-jobs.ensures ∙ ap (λ (x : Problem). jobs_up_to x ms c.grade-2.result) same in
    jobs_within i ms c.grade-2.result c.in_ok-jobs.jobs.items listed limit
