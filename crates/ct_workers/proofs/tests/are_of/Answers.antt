use Rattle.std.proofs.Common.{All, ◌<◌, length, subst, arith}
use Rattle.std.proofs.lemmas.List.{take_all}
use Rattle.std.proofs.lemmas.List.Elements.{All-more}
use Rattle.ct_workers.specs.Turns.{IsTurnOf}
use Rattle.ct_workers.proofs.tests.are_of.Goals as goal

pub loop-turn-preserved : goal.loop-turn-preserved
loop-turn-preserved c =
    let inside : c.loop-turn.turn-index < length c.args.turns.now = omega arith in
    All-more (IsTurnOf c.args.passes) c.args.turns.now c.loop-turn.turn-index _ inside c.loop-turn.invariant (c.is_of.ensures c.if-not-is_of.false)

pub returns : goal.returns
returns c = λ t. subst (All (IsTurnOf c.args.passes)) (take_all c.loop-turn.turn-index c.args.turns.now (omega arith)) c.loop-turn.invariant
