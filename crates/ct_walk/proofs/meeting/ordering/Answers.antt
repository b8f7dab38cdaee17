use Rattle.ct_walk.proofs.TwoWalks.{coordinates_within}
use Rattle.ct_walk.proofs.meeting.ordering.Goals as goal

pub is_below-requires-clause-p_limit : goal.is_below-requires-clause-p_limit
is_below-requires-clause-p_limit c = coordinates_within c.args.moves.now.instance c.instance.ensures.checked.instance c.args.first.now c.requires.first_grade

pub is_below-requires-clause-q_limit : goal.is_below-requires-clause-q_limit
is_below-requires-clause-q_limit c = coordinates_within c.args.moves.now.instance c.instance.ensures.checked.instance c.args.second.now c.requires.second_grade
