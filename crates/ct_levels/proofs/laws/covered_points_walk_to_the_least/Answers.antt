use Rattle.ct_levels.proofs.Walks.{version_walk, version_walk_end}
use Rattle.ct_levels.proofs.laws.covered_points_walk_to_the_least.Goals as goal

pub returns-clause-walk : goal.returns-clause-walk
returns-clause-walk c = version_walk

pub returns-clause-end : goal.returns-clause-end
returns-clause-end c = version_walk_end
