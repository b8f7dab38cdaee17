use Rattle.ct_walk.proofs.Followed.{walk_follows}
use Rattle.ct_walk.proofs.WalkFacts.{step_is_free, walk_leads, walk_normal, walk_exists, walk_one}
use Rattle.ct_walk.proofs.laws.each_point_has_one_walk.Goals as goal

pub returns-clause-step : goal.returns-clause-step
returns-clause-step c = step_is_free

pub returns-clause-leads : goal.returns-clause-leads
returns-clause-leads c = walk_leads

pub returns-clause-normal : goal.returns-clause-normal
returns-clause-normal c = walk_normal

pub returns-clause-some : goal.returns-clause-some
returns-clause-some c = walk_exists

pub returns-clause-only : goal.returns-clause-only
returns-clause-only c = walk_one

pub returns-clause-follows : goal.returns-clause-follows
returns-clause-follows c = walk_follows
