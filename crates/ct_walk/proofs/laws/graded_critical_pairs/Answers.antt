use Rattle.ct_walk.proofs.Ends.{ends_in_fiber}
use Rattle.ct_walk.proofs.Pairs.{graded_critical_pairs, test_list_joins_jobs}
use Rattle.ct_walk.proofs.laws.graded_critical_pairs.Goals as goal

pub returns-clause-ends : goal.returns-clause-ends
returns-clause-ends c = ends_in_fiber

pub returns-clause-pairs : goal.returns-clause-pairs
returns-clause-pairs c = graded_critical_pairs

pub returns-clause-test_list : goal.returns-clause-test_list
returns-clause-test_list c = test_list_joins_jobs
