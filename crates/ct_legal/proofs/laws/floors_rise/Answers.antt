use Rattle.ct_legal.proofs.Floors.{floor_greatest, covered_is_answered}
use Rattle.ct_legal.proofs.laws.floors_rise.Goals as goal

pub returns-clause-greatest : goal.returns-clause-greatest
returns-clause-greatest c = floor_greatest

pub returns-clause-covered : goal.returns-clause-covered
returns-clause-covered c = covered_is_answered
