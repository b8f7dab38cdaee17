use Rattle.ct_instance.specs.Versions.{coprime}
use Rattle.ct_box.proofs.BroughtMoves.{none_left}
use Rattle.ct_box.proofs.reducing.push_within.Goals as goal

pub returns-then-coprime-clause-left : goal.returns-then-coprime-clause-left
returns-then-coprime-clause-left c =
    none_left c.args.moves.now.instance c.args.moves.now.moves c.args.top.now c.args.job c.args.points.now.items (λ w. coprime (c.coprime.ensures.0 c.if-coprime.true))
