use Rattle.std.proofs.Common.{◌≤◌, sym, subst}
use Rattle.ct_vectors.specs.declared.limits.TheConstants.{GRADE_LIMIT}
use Rattle.ct_instance.specs.Instance.{IsPoint, grade_of}
use Rattle.ct_checker.proofs.Entries.{walked_from}
use Rattle.ct_checker.proofs.certifying.entry_of.Goals as goal

pub steps_from-requires-clause-point : goal.steps_from-requires-clause-point
steps_from-requires-clause-point c =
    let w = walked_from c.args.inst.now c.args.moves.now c.instance-inst.ensures.checked c.requires.instance c.args.job c.requires.job in
    subst (IsPoint c.args.moves.now.instance) (sym c.in_ok-first.ensures.first) w.0.0

pub steps_from-requires-clause-grade : goal.steps_from-requires-clause-grade
steps_from-requires-clause-grade c =
    let w = walked_from c.args.inst.now c.args.moves.now c.instance-inst.ensures.checked c.requires.instance c.args.job c.requires.job in
    subst (λ p. grade_of c.args.moves.now.instance.columns p ≤ GRADE_LIMIT) (sym c.in_ok-first.ensures.first) w.0.1

pub steps_from-requires-2-clause-point : goal.steps_from-requires-2-clause-point
steps_from-requires-2-clause-point c =
    let w = walked_from c.args.inst.now c.args.moves.now c.instance-inst.ensures.checked c.requires.instance c.args.job c.requires.job in
    subst (IsPoint c.args.moves.now.instance) (sym c.in_ok-first.ensures.second) w.1.0

pub steps_from-requires-2-clause-grade : goal.steps_from-requires-2-clause-grade
steps_from-requires-2-clause-grade c =
    let w = walked_from c.args.inst.now c.args.moves.now c.instance-inst.ensures.checked c.requires.instance c.args.job c.requires.job in
    subst (λ p. grade_of c.args.moves.now.instance.columns p ≤ GRADE_LIMIT) (sym c.in_ok-first.ensures.second) w.1.1
