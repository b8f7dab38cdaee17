use Rattle.std.proofs.Common.{◌≤◌, List, ℕ, All, sym, subst}
use Rattle.ct_vectors.specs.declared.limits.TheConstants.{JOB_GRADE_LIMIT}
use Rattle.ct_best.proofs.Backwards.{small_coordinates}
use Rattle.ct_best.proofs.steps.is_below.Goals as goal

pub compare-requires-clause-p_limit : goal.compare-requires-clause-p_limit
compare-requires-clause-p_limit c =
    subst (λ (p : List ℕ). All (λ x. x ≤ JOB_GRADE_LIMIT) p) (sym c.as_slice.ensures.coordinates)
    (small_coordinates c.args.inst.now c.rows-rows.ensures.instance c.args.p.now c.requires.p_grade)

pub compare-requires-clause-q_limit : goal.compare-requires-clause-q_limit
compare-requires-clause-q_limit c =
    subst (λ (p : List ℕ). All (λ x. x ≤ JOB_GRADE_LIMIT) p) (sym c.as_slice-2.ensures.coordinates)
    (small_coordinates c.args.inst.now c.rows-rows.ensures.instance c.args.q.now c.requires.q_grade)
