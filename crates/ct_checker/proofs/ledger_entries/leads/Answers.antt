use Rattle.ct_checker.proofs.Following.{followed_to, followed_point, refused_nowhere, refused_point}
use Rattle.ct_checker.proofs.ledger_entries.leads.Goals as goal

pub returns-in-Ok-clause-end : goal.returns-in-Ok-clause-end
returns-in-Ok-clause-end c = followed_to c.args.moves.now.moves c.args.p.now c.args.steps.now c.follow.new.p c.in-Ok.ensures.ok

pub returns-in-Ok-clause-point : goal.returns-in-Ok-clause-point
returns-in-Ok-clause-point c =
    followed_point c.args.moves.now c.instance-inst.ensures.checked c.args.p.now c.args.steps.now c.follow.new.p c.requires.point c.in-Ok.ensures.ok

pub returns-in-Err-clause-end : goal.returns-in-Err-clause-end
returns-in-Err-clause-end c = refused_nowhere c.args.moves.now.moves c.args.p.now c.args.steps.now c.in-Err.field-0 c.follow.new.p c.in-Err.ensures.refused

pub returns-in-Err-clause-point : goal.returns-in-Err-clause-point
returns-in-Err-clause-point c =
    refused_point c.args.moves.now c.instance-inst.ensures.checked c.args.p.now c.args.steps.now c.in-Err.field-0 c.follow.new.p c.requires.point c.in-Err.ensures.refused
