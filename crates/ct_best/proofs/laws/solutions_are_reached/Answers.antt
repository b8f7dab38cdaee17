use Rattle.ct_best.proofs.Points.{solutions_are_reached}
use Rattle.ct_best.proofs.laws.solutions_are_reached.Goals as goal

pub returns : goal.returns
returns c = record { reached = solutions_are_reached }
