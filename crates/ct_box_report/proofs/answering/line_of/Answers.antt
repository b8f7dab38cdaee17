use Rattle.std.proofs.Common.{◌≡◌, ◌≤◌, ◌<◌, ℕ, List, All, sym, ap, ap₂, subst, subst₂, ◌∙◌, arith}
use Rattle.ct_vectors.specs.declared.limits.TheConstants.{RIGHT_LIMIT, GRADE_LIMIT}
use Rattle.ct_vectors.specs.Vectors.{total}
use Rattle.ct_instance.specs.Instance.{Problem, IsPoint}
use Rattle.ct_instance.specs.Fiber.{least_of}
use Rattle.ct_instance.proofs.Points.{right-total, least_is_point, least-limit}
use Rattle.ct_form.specs.EqualityForms.{equal_of, right_for}
use Rattle.ct_box_report.proofs.Tops.{wide_is_top}
use Rattle.ct_box_report.proofs.answering.line_of.Goals as goal

pub sum-requires : goal.sum-requires
sum-requires c =
    let f = c.args.form.now in
    let form = c.columns-columns.ensures.form in
    let top = wide_is_top f form c.args.b.now c.requires.right c.requires.right_limit in
    let small : total (right_for f c.args.b.now) ≤ GRADE_LIMIT = right-total (equal_of f) form.equal (right_for f c.args.b.now) top.right top.limit in
    subst (λ (b : List ℕ). total b < 18446744073709551616) (sym (c.as_slice.ensures.coordinates ∙ c.in_ok-right.ensures)) (omega (arith, small))

pub walked-requires-clause-right_limit : goal.walked-requires-clause-right_limit
walked-requires-clause-right_limit c =
    let top = wide_is_top c.args.form.now c.columns-columns.ensures.form c.args.b.now c.requires.right c.requires.right_limit in
    subst (All (λ x. x ≤ RIGHT_LIMIT)) (sym (c.as_slice-2.ensures.coordinates ∙ c.in_ok-right.ensures)) top.limit

pub answer_at-requires-clause-point : goal.answer_at-requires-clause-point
answer_at-requires-clause-point c =
    let f = c.args.form.now in
    let form = c.columns-columns.ensures.form in
    let top = wide_is_top f form c.args.b.now c.requires.right c.requires.right_limit in
    let end = c.end.ensures ∙ c.in_ok-walk.ensures.least ∙ ap₂ least_of c.requires.equal (c.as_slice-2.ensures.coordinates ∙ c.in_ok-right.ensures) in
    subst₂ (λ (i : Problem) (p : List ℕ). IsPoint i p) (sym (c.deref.ensures ∙ c.equal.ensures)) (sym end) (least_is_point (equal_of f) form.equal (right_for f c.args.b.now) top.right)

pub answer_at-requires-clause-limit : goal.answer_at-requires-clause-limit
answer_at-requires-clause-limit c =
    let f = c.args.form.now in
    let form = c.columns-columns.ensures.form in
    let top = wide_is_top f form c.args.b.now c.requires.right c.requires.right_limit in
    let end = c.end.ensures ∙ c.in_ok-walk.ensures.least ∙ ap₂ least_of c.requires.equal (c.as_slice-2.ensures.coordinates ∙ c.in_ok-right.ensures) in
    subst (All (λ x. x ≤ GRADE_LIMIT)) (sym end) (least-limit (equal_of f) form.equal (right_for f c.args.b.now) top.right top.limit)
