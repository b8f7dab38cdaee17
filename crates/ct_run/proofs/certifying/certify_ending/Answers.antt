use Rattle.std.proofs.Common.{◌≡◌, sym, subst}
use Rattle.std.specs.Arc.{arc_value}
use Rattle.ct_instance.specs.Instance.{Problem, IsInstance}
use Rattle.ct_instance.specs.TestSet.{test_list}
use Rattle.ct_instance.specs.Versions.{version_list}
use Rattle.ct_version.specs.Editions.{Edition}
use Rattle.ct_solo.specs.Seen.{SoloSeen, IsCompleted}
use Rattle.ct_answer.proofs.Completed.{opened, completed_list}
use Rattle.ct_run.proofs.certifying.certify_ending.Goals as goal

pub ledger_ending-requires-clause-list : goal.ledger_ending-requires-clause-list
ledger_ending-requires-clause-list c =
    let i = arc_value c.args.inst in
    let helped = c.in-Ok.helped in
    let done : IsCompleted (opened i c.args.moves c.args.grade) c.args.grade c.complete.new.self helped =
    subst (λ (s : SoloSeen). IsCompleted s c.args.grade c.complete.new.self helped) c.in_ok-solo.ensures c.in-Ok.ensures.answer in
    let s : IsInstance i = subst IsInstance c.deref.ensures c.rows-rows.ensures.instance in
    let list = completed_list i c.args.moves c.args.grade c.args.grade c.complete.new.self helped done s in
    subst (λ (v : Edition). version_list v.instance v.number ≡ test_list v.instance c.args.grade) (sym c.deref-in-Ok.ensures)
    (subst (λ (p : Problem). version_list p (arc_value helped.version).number ≡ test_list p c.args.grade) (sym done.help.version.instance) list)
