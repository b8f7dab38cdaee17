use Rattle.ct_levels.proofs.Full.{no_full_within}
use Rattle.ct_levels.proofs.Reach.{reach_when_full, reach_within, reach_is_level, reach_covers, reach_rises}
use Rattle.ct_levels.proofs.laws.reach_is_a_level.Goals as goal

pub returns-clause-full : goal.returns-clause-full
returns-clause-full c = reach_when_full

pub returns-clause-within : goal.returns-clause-within
returns-clause-within c = λ i s limit k g v within d. (no_full_within i s limit k g v within d, reach_within i s limit k g v within d)

pub returns-clause-level : goal.returns-clause-level
returns-clause-level c = reach_is_level

pub returns-clause-covers : goal.returns-clause-covers
returns-clause-covers c = reach_covers

pub returns-clause-rises : goal.returns-clause-rises
returns-clause-rises c = reach_rises
