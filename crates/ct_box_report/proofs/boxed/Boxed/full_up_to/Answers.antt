use Rattle.std.proofs.Common.{◌≡◌, ◌∙◌, sym, ap, subst}
use Rattle.ct_instance.specs.Instance.{IsInstance}
use Rattle.ct_box.specs.Box.{box_full_grade}
use Rattle.ct_box.proofs.Completions.{done_names_full}
use Rattle.ct_box_report.specs.Boxes.{BoxSeen}
use Rattle.ct_box_report.specs.BoxReport.{if_within}
use Rattle.ct_box_report.proofs.Lines.{within_some, within_none}
use Rattle.ct_box_report.proofs.boxed.Boxed.full_up_to.Goals as goal

pub returns-in-Some : goal.returns-in-Some
returns-in-Some c =
    let done = c.self.inside.done in
    let inst = subst IsInstance (c.deref.ensures ∙ c.instance.ensures.instance) c.rows-rows.ensures.instance in
    let names = done_names_full done.moves.instance inst c.self.inside.top c.self.inside.limit done.moves.moves done.full c.self.invariant ∙
    ap (λ (s : BoxSeen). box_full_grade s.instance s.top s.limit) c.self.view_is in
    sym (within_some c.args.grade c.in-Some.full c.if-full-grade.true) ∙ ap (if_within c.args.grade) (sym c.in-Some.is ∙ names)

pub returns-in_default : goal.returns-in_default
returns-in_default c =
    let done = c.self.inside.done in
    let inst = subst IsInstance (c.deref.ensures ∙ c.instance.ensures.instance) c.rows-rows.ensures.instance in
    let names = done_names_full done.moves.instance inst c.self.inside.top c.self.inside.limit done.moves.moves done.full c.self.invariant ∙
    ap (λ (s : BoxSeen). box_full_grade s.instance s.top s.limit) c.self.view_is in
    sym (within_none c.args.grade c.in-Some.full c.if-full-grade.false) ∙ ap (if_within c.args.grade) (sym c.in-Some.is ∙ names)

pub returns-in_default-2 : goal.returns-in_default-2
returns-in_default-2 c =
    let done = c.self.inside.done in
    let inst = subst IsInstance (c.deref.ensures ∙ c.instance.ensures.instance) c.rows-rows.ensures.instance in
    let names = done_names_full done.moves.instance inst c.self.inside.top c.self.inside.limit done.moves.moves done.full c.self.invariant ∙
    ap (λ (s : BoxSeen). box_full_grade s.instance s.top s.limit) c.self.view_is in
    ap (if_within c.args.grade) (sym c.in_default.is ∙ names)
