use Rattle.std.proofs.Common.{◌≡◌, map, sym, ap, ◌∙◌}
use Rattle.ct_vectors.specs.Vectors.{total}
use Rattle.ct_instance.specs.Instance.{weighted, grade_of}
use Rattle.ct_instance.proofs.Grades.{grade_is_weighted}
use Rattle.ct_instance.proofs.instances.Instance.grade_wide.Goals as goal

pub returns : goal.returns
returns c =
    let same : weighted c.deref.result.now c.as_slice.result.now ≡ grade_of c.args.self.now.columns c.args.p.now =
    ap (λ s. weighted s c.as_slice.result.now) (c.deref.ensures.value ∙ c.self.invariant.sums_of_columns) ∙
    ap (λ p. weighted (map total c.self.inside.columns.items) p) c.as_slice.ensures.coordinates ∙
    sym (grade_is_weighted c.self.inside.columns.items c.args.p.now) ∙ ap (λ v. grade_of v.columns c.args.p.now) c.self.view_is in
    c.wide_grade_by_sums.ensures ∙ same
