use Rattle.ct_groups.proofs.Known.{small_at}
use Rattle.ct_groups.proofs.least.lower_place.Goals as goal

pub is_lower_point-requires-clause-p_small : goal.is_lower_point-requires-clause-p_small
is_lower_point-requires-clause-p_small c = small_at c.args.inst.now c.args.points.now c.args.a c.index-points-a.result c.requires.points c.requires.a c.index-points-a.is

pub is_lower_point-requires-clause-q_small : goal.is_lower_point-requires-clause-q_small
is_lower_point-requires-clause-q_small c = small_at c.args.inst.now c.args.points.now c.args.b c.index-points-b.result c.requires.points c.requires.b c.index-points-b.is
