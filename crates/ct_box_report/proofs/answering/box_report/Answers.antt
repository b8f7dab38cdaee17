use Rattle.std.proofs.Common.{List, All, sym, ap, subst, subst₂, ◌∙◌}
use Rattle.ct_input.specs.declared.script.Phase.{Phase}
use Rattle.ct_box_report.specs.Boxes.{BoxSeen, IsCoveredPhase}
use Rattle.ct_box_report.proofs.Tops.{box_covers}
use Rattle.ct_box_report.proofs.answering.box_report.Goals as goal

pub phases_of-requires-clause-phases : goal.phases_of-requires-clause-phases
phases_of-requires-clause-phases c =
    let f = c.args.form.now in
    let top = ap (λ (s : BoxSeen). s.top) c.in_ok-boxed.ensures ∙ c.in_ok-top.ensures.top in
    subst₂ (λ t phases. All (IsCoveredPhase f t) phases) (sym top) (sym c.as_slice.ensures) (box_covers f c.args.script.now c.requires.script)
