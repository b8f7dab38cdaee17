use Rattle.std.proofs.Common.{◌∙◌}
use Rattle.ct_version.proofs.Walked.{Found, asked_by, asked-grade, asked_finds}
use Rattle.ct_version.proofs.asking.descend.Goals as goal
use Rattle.ct_version.proofs.asking.descend.Goals.{After-walk_end}

pub walk_end-requires-clause-grade : goal.walk_end-requires-clause-grade
walk_end-requires-clause-grade c =
    asked-grade c.args.version.now c.args.b.now c.moves-moves.result.now.instance c.moves-moves.result.now.moves c.start_into.new.p
    (asked_by c.args.version.now c.args.b.now c.moves-moves.result.now c.deref.result.now c.start_into.new.p c.moves-moves.ensures.version c.requires.right c.requires.limit
    c.requires.covers c.moves-moves.ensures.instance c.moves-moves.ensures.list (c.deref.ensures ∙ c.instance.ensures.instance) c.start_into.ensures)

found : (c : After-walk_end) → Found c.args.version.now.instance c.args.b.now c.walk_end.ensures.steps c.walk_end.new.p
found c =
    asked_finds c.args.version.now c.args.b.now c.moves-moves.result.now.instance c.moves-moves.result.now.moves c.start_into.new.p
    (asked_by c.args.version.now c.args.b.now c.moves-moves.result.now c.deref.result.now c.start_into.new.p c.moves-moves.ensures.version c.requires.right c.requires.limit
    c.requires.covers c.moves-moves.ensures.instance c.moves-moves.ensures.list (c.deref.ensures ∙ c.instance.ensures.instance) c.start_into.ensures)
    c.walk_end.ensures.steps c.walk_end.new.p c.walk_end.ensures.walk

pub returns-clause-least : goal.returns-clause-least
returns-clause-least c = (found c).least

pub returns-clause-point : goal.returns-clause-point
returns-clause-point c = (found c).point

pub returns-clause-small : goal.returns-clause-small
returns-clause-small c = (found c).small
