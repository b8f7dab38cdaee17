use Rattle.ct_input.proofs.CutTexts.{instance_cut, instance_ends}
use Rattle.ct_input.proofs.laws.cut_instance_has_fault.Goals as goal

pub returns-clause-cut : goal.returns-clause-cut
returns-clause-cut c = instance_cut

pub returns-clause-last : goal.returns-clause-last
returns-clause-last c = instance_ends
