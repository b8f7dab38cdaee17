use Rattle.std.proofs.Common.{◌≤◌, List, ℕ, All, sym, subst}
use Rattle.ct_vectors.specs.declared.limits.TheConstants.{JOB_GRADE_LIMIT}
use Rattle.ct_best.proofs.Backwards.{small_coordinates}
use Rattle.ct_best.proofs.steps.has_no_artificials.Goals as goal

pub art_total-requires-clause-limit : goal.art_total-requires-clause-limit
art_total-requires-clause-limit c =
    subst (λ (p : List ℕ). All (λ x. x ≤ JOB_GRADE_LIMIT) p) (sym c.as_slice.ensures.coordinates)
    (small_coordinates c.args.inst.now c.rows-rows.ensures.instance c.args.p.now c.requires.grade)
