use Rattle.std.proofs.Common.{◌≡◌, ◌∙◌, ap, ap₂}
use Rattle.std.specs.List.{fold}
use Rattle.ct_vectors.specs.Vectors.{zeros}
use Rattle.ct_box_report.specs.BoxReport.{top_with_phase, box_top}
use Rattle.ct_box_report.proofs.Lines.{ok_weaker}
use Rattle.ct_box_report.proofs.bounding.top_of.Goals as goal

pub returns-clause-top : goal.returns-clause-top
unfolding box_top
returns-clause-top c =
    let zero = c.in_ok-zero.ensures ∙ ap zeros (c.rows.ensures.rows ∙ ap (λ i. i.rows) (c.deref.ensures ∙ c.equal.ensures)) in
    ok_weaker _ _ c.raised_over.result (λ t is. is ∙ ap₂ (fold (top_with_phase c.args.form.now)) zero c.as_slice.ensures) c.raised_over.ensures.top
