use Rattle.std.proofs.Common.{◌≡◌, sym, subst, None, Some, ◌∙◌}
use Rattle.std.specs.Arc.{arc_value}
use Rattle.ct_instance.specs.Instance.{IsInstance}
use Rattle.ct_checker.specs.Refusals.{first_refusal_of}
use Rattle.ct_checker.specs.Checking.{IsRefusedBy}
use Rattle.ct_checker.proofs.Accepted.{ledger_decides}
use Rattle.ct_checker.proofs.Refusals.{no_refusal}
use Rattle.ct_batch.proofs.checking.check_batch.Goals as goal

pub returns-in-Ok-clause-accepted : goal.returns-in-Ok-clause-accepted
returns-in-Ok-clause-accepted g c = (λ a. (no_refusal (arc_value c.args.inst.now) c.args.ledger.now).0 c.in-Ok.ensures.none, λ a. tt)

pub returns-in-Ok-clause-decides : goal.returns-in-Ok-clause-decides
returns-in-Ok-clause-decides g c =
    λ a b right h.
    let i = arc_value c.args.inst.now in
    let s : IsInstance i = subst IsInstance c.deref.ensures c.rows-rows.ensures.instance in
    ledger_decides i s c.args.ledger.now c.grade.ensures.ledger ((no_refusal i c.args.ledger.now).0 c.in-Ok.ensures.none) b right h

pub returns-in-Err-Refused-clause-accepted : goal.returns-in-Err-Refused-clause-accepted
returns-in-Err-Refused-clause-accepted g c =
    let first = first_refusal_of (arc_value c.args.inst.now) c.args.ledger.now in
    let refused : first ≡ Some (c.in-Err-Refused.line, c.in-Err-Refused.reason) = subst (IsRefusedBy first) c.in-Err-Refused.field-0-is c.in-Err-Refused.ensures.refused in (
      λ a. absurd a,
      λ a. let none : None ≡ Some (c.in-Err-Refused.line, c.in-Err-Refused.reason) = sym ((no_refusal (arc_value c.args.inst.now) c.args.ledger.now).1 a) ∙ refused in absurd (cc),
    )
