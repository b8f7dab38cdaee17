use Rattle.std.proofs.Common.{◌++◌, ◌∷◌, [], ap, ap₂, sym, ◌∙◌}
use Rattle.ct_instance.specs.Instance.{grade_of}
use Rattle.ct_solo.proofs.CoprimeHeads.{grades_push}
use Rattle.ct_solo.proofs.filling.head_grades.Goals as goal

pub loop-k-preserved : goal.loop-k-preserved
loop-k-preserved c =
    let i = c.args.moves.now.instance in
    let ms = c.args.moves.now.moves in
    let inst = c.deref.ensures ∙ c.instance.ensures.instance in
    let head = c.head.ensures ∙ ap (λ m. m.head) c.get.ensures.at in
    let grade = c.grade.ensures ∙ ap₂ (λ j p. grade_of j.columns p) inst head in
    c.in_ok-push.ensures.items ∙ ap₂ (λ l g. l ++ g ∷ []) c.loop-k.invariant grade ∙ sym (grades_push i ms c.loop-k.k)
