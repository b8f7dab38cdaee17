use Rattle.std.proofs.Common.{length, ap, subst, ◌∙◌}
use Rattle.std.specs.Arc.{arc_value}
use Rattle.ct_version.specs.declared.pins.Stop.{Stop}
use Rattle.ct_version.specs.Editions.{Edition}
use Rattle.ct_solo.specs.Seen.{SoloSeen, IsCompleted, IsEnded}
use Rattle.ct_answer.proofs.Completed.{opened}
use Rattle.ct_answer.proofs.Extents.{list_of, extent_helped, extent_marked}
use Rattle.ct_answer.proofs.solver.Solver.open_at.Goals as goal

pub returns-in-Ok-clause-extent : goal.returns-in-Ok-clause-extent
returns-in-Ok-clause-extent c =
    let i = arc_value c.args.inst in
    let helped = c.in-Ok.helped in
    let done : IsCompleted (opened i c.args.limit c.args.grade) c.args.grade c.complete.new.self helped =
    subst (λ (s : SoloSeen). IsCompleted s c.args.grade c.complete.new.self helped) c.in_ok-solo.ensures c.in-Ok.ensures.answer in
    extent_helped i c.args.limit c.args.grade c.args.grade c.complete.new.self helped c.len-moves.result done
    (c.len-moves.ensures.count ∙ ap length c.moves.ensures.list ∙ ap (λ (v : Edition). length (list_of v)) c.deref.ensures)

pub returns-in-Err-Full-clause-extent : goal.returns-in-Err-Full-clause-extent
returns-in-Err-Full-clause-extent c =
    let i = arc_value c.args.inst in
    let mark = c.in-Err-Full.mark in
    let ended : IsEnded (opened i c.args.limit c.args.grade) c.args.grade c.complete.new.self c.in-Err-Full.field-0 =
    subst (λ (s : SoloSeen). IsEnded s c.args.grade c.complete.new.self c.in-Err-Full.field-0) c.in_ok-solo.ensures c.in-Err-Full.ensures.answer in
    let done = subst (λ (s : Stop). IsEnded (opened i c.args.limit c.args.grade) c.args.grade c.complete.new.self s) c.in-Err-Full.field-0-is ended in
    extent_marked i c.args.limit c.args.grade mark c.len-moves-in-Err-Full.result c.below-level.result done.0
    (c.len-moves-in-Err-Full.ensures.count ∙ ap length c.moves-in-Err-Full.ensures.list ∙ ap (λ (v : Edition). length (list_of v)) c.deref-in-Err-Full.ensures)
    c.below-level.ensures
