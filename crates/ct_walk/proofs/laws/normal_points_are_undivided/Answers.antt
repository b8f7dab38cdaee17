use Rattle.ct_walk.proofs.Followed.{normal_is_undivided}
use Rattle.ct_walk.proofs.laws.normal_points_are_undivided.Goals as goal

pub returns : goal.returns
returns c = record { normal = normal_is_undivided }
