use Rattle.std.proofs.Common.{◌≡◌, ◌≤◌, ◌∙◌, ℕ, List, None, IfOk, sym, ap, subst}
use Rattle.ct_vectors.specs.declared.limits.TheConstants.{GRADE_LIMIT}
use Rattle.ct_vectors.specs.Vectors.{total, Divides}
use Rattle.ct_instance.specs.Instance.{Problem, IsInstance, IsRight, grade_of, start_of}
use Rattle.ct_version.proofs.Walked.{start-grade}
use Rattle.ct_box.specs.Box.{box_full_grade}
use Rattle.ct_box_report.specs.Boxes.{BoxSeen}
use Rattle.ct_box_report.specs.BoxReport.{if_within}
use Rattle.ct_box_report.proofs.Lines.{ok_weaker, IsBoxWalk, box_walked}
use Rattle.ct_box_report.proofs.boxed.Boxed.walked.Goals as goal

pub walk-requires-clause-grade : goal.walk-requires-clause-grade
walk-requires-clause-grade c =
    let i = c.self.inside.done.moves.instance in
    let b = c.args.right.now in
    let inst = subst IsInstance (c.deref.ensures ∙ c.instance-inst.ensures.instance) c.rows-rows.ensures.instance in
    let right = subst (λ (j : Problem). IsRight j b) (sym (ap (λ (s : BoxSeen). s.instance) c.self.view_is)) c.requires.right in
    subst (λ (p : List ℕ). grade_of i.columns p ≤ GRADE_LIMIT) (sym (c.in_ok-start.ensures ∙ ap (λ (j : Problem). start_of j b) (c.deref-2.ensures ∙ c.instance-inst.ensures.instance)))
    (start-grade i inst b right c.requires.right_limit)

walked : (c : goal.After-walk) → IfOk c.walk.result (λ w. IsBoxWalk c.args.self.now.instance c.args.self.now.top c.args.right.now w.steps w.end)
walked c =
    let inside = c.self.inside in
    let done = inside.done in
    let i = done.moves.instance in
    let b = c.args.right.now in
    let inst = subst IsInstance (c.deref.ensures ∙ c.instance-inst.ensures.instance) c.rows-rows.ensures.instance in
    let view = c.self.view_is in
    let right = subst (λ (s : BoxSeen). IsRight s.instance b) (sym view) c.requires.right in
    let within = subst (λ (s : BoxSeen). Divides b s.top) (sym view) c.requires.within in
    let room = subst (λ (s : BoxSeen). if_within (total b) (box_full_grade s.instance s.top s.limit) ≡ None) (sym view) c.requires.room in
    let starts = c.in_ok-start.ensures ∙ ap (λ (j : Problem). start_of j b) (c.deref-2.ensures ∙ c.instance-inst.ensures.instance) in
    ok_weaker _ _ c.walk.result
    (λ w is. subst (λ (s : BoxSeen). IsBoxWalk s.instance s.top b w.steps w.end) view
    (box_walked i inst inside.top inside.limit done.moves.moves done.full c.self.invariant b right within room c.in_ok-start.start starts w.steps w.end is))
    c.walk.ensures

pub returns-clause-walk : goal.returns-clause-walk
returns-clause-walk c = ok_weaker _ _ c.walk.result (λ w is. is.walk) (walked c)

pub returns-clause-least : goal.returns-clause-least
returns-clause-least c = ok_weaker _ _ c.walk.result (λ w is. is.least) (walked c)
