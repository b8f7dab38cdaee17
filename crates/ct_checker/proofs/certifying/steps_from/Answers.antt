use Rattle.std.proofs.Common.{sym, subst, ◌∙◌}
use Rattle.ct_ledger.specs.Parts.{AreSteps}
use Rattle.ct_checker.proofs.WithinLimits.{walk_within}
use Rattle.ct_checker.proofs.certifying.steps_from.Goals as goal

pub returns-clause-steps : goal.returns-clause-steps
returns-clause-steps c =
    subst AreSteps (sym (c.from_vec.ensures ∙ c.into_parts-steps.ensures.steps))
    (walk_within c.args.moves.now c.instance-inst.ensures.checked c.args.p c.in_ok-walk.field-0.end c.requires.point c.requires.grade c.in_ok-walk.field-0.steps c.in_ok-walk.ensures)
