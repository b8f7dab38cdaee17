use Rattle.std.proofs.Common.{sym}
use Rattle.ct_walk.proofs.MoveFacts.{first_within, step_from}
use Rattle.ct_walk.proofs.walking.step_on.Goals as goal

pub times_in-times-requires-clause-some : goal.times_in-times-requires-clause-some
times_in-times-requires-clause-some c = (first_within c.args.moves.now.moves c.args.p.now c.in-Some.number (sym c.in-Some.ensures)).0

pub times_in-times-requires-clause-within : goal.times_in-times-requires-clause-within
times_in-times-requires-clause-within c = (first_within c.args.moves.now.moves c.args.p.now c.in-Some.number (sym c.in-Some.ensures)).1

pub make_move-requires-clause-some : goal.make_move-requires-clause-some
make_move-requires-clause-some c = (first_within c.args.moves.now.moves c.args.p.now c.in-Some.number (sym c.in-Some.ensures)).0

pub make_move-requires-clause-within : goal.make_move-requires-clause-within
make_move-requires-clause-within c = (first_within c.args.moves.now.moves c.args.p.now c.in-Some.number (sym c.in-Some.ensures)).1

pub returns-in-Some-clause-step : goal.returns-in-Some-clause-step
returns-in-Some-clause-step c =
    step_from c.args.moves.now.moves c.args.p.now c.make_move.new.p c.in-Some.number c.times_in-times.result (sym c.in-Some.ensures)
    c.times_in-times.ensures c.make_move.ensures.moved
