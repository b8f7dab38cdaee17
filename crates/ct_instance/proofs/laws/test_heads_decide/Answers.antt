use Rattle.ct_instance.proofs.TestHeads.{improvable_heads, minimal_is, test_move_disjoint}
use Rattle.ct_instance.proofs.laws.test_heads_decide.Goals as goal

pub returns-clause-above : goal.returns-clause-above
returns-clause-above c = improvable_heads

pub returns-clause-minimal : goal.returns-clause-minimal
returns-clause-minimal c = minimal_is

pub returns-clause-disjoint : goal.returns-clause-disjoint
returns-clause-disjoint c = test_move_disjoint
