use Rattle.ct_groups.proofs.Known.{small_coordinates}
use Rattle.ct_groups.proofs.least.is_lower_point.Goals as goal

pub compare-requires-clause-p_limit : goal.compare-requires-clause-p_limit
compare-requires-clause-p_limit c = rw c.as_slice.ensures.coordinates (small_coordinates c.args.inst.now c.costs.ensures.instance c.args.p.now c.requires.p_small)

pub compare-requires-clause-q_limit : goal.compare-requires-clause-q_limit
compare-requires-clause-q_limit c = rw c.as_slice-2.ensures.coordinates (small_coordinates c.args.inst.now c.costs.ensures.instance c.args.q.now c.requires.q_small)
