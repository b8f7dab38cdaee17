use Rattle.std.proofs.Common.{◌≡◌, ◌-◌, ◌≤◌, ◌++◌, List, ℕ, All, take, length, sym, ap, ◌∙◌, subst, arith}
use Rattle.std.proofs.lemmas.List.Elements.{All-append, All-take, All-weaker}
use Rattle.ct_vectors.specs.declared.limits.TheConstants.{GRADE_LIMIT, JOB_GRADE_LIMIT}
use Rattle.ct_slow.proofs.Fibers.{each-within-total}
use Rattle.ct_slow.proofs.listing.end_with.Goals as goal

ended_within : (n : ℕ) (point rest ended : List ℕ) → ended ≡ take n point ++ rest → All (λ y. y ≤ JOB_GRADE_LIMIT) point → All (λ y. y ≤ GRADE_LIMIT) rest →
    All (λ y. y ≤ JOB_GRADE_LIMIT) ended
ended_within n point rest ended e p r =
    subst (λ l. All (λ y. y ≤ JOB_GRADE_LIMIT) l) (sym e)
    (All-append (λ y. y ≤ JOB_GRADE_LIMIT) (take n point) rest (All-take (λ y. y ≤ JOB_GRADE_LIMIT) n point p)
    (All-weaker (λ y. y ≤ GRADE_LIMIT) (λ y. y ≤ JOB_GRADE_LIMIT) (λ y h. omega arith) rest r))

pub keep_lower-requires-clause-point_limit : goal.keep_lower-requires-clause-point_limit
keep_lower-requires-clause-point_limit c =
    ended_within (length c.args.point.now - length c.as_slice.result.now) c.args.point.now c.args.rest.now c.write_end.new.self
    (c.write_end.ensures ∙ ap (λ l. take (length c.args.point.now - length c.as_slice.result.now) c.args.point.now ++ l) c.as_slice.ensures.coordinates)
    c.requires.point_limit (each-within-total GRADE_LIMIT c.args.rest.now c.requires.rest_limit)

pub returns-clause-point_within : goal.returns-clause-point_within
returns-clause-point_within c =
    ended_within (length c.args.point.now - length c.as_slice.result.now) c.args.point.now c.args.rest.now c.write_end.new.self
    (c.write_end.ensures ∙ ap (λ l. take (length c.args.point.now - length c.as_slice.result.now) c.args.point.now ++ l) c.as_slice.ensures.coordinates)
    c.requires.point_limit (each-within-total GRADE_LIMIT c.args.rest.now c.requires.rest_limit)
