use Rattle.ct_instance.proofs.TestList.{test_lists, test_lists_grow}
use Rattle.ct_instance.proofs.laws.test_list_is_one.Goals as goal

pub returns-clause-one : goal.returns-clause-one
returns-clause-one c = test_lists

pub returns-clause-grows : goal.returns-clause-grows
returns-clause-grows c = test_lists_grow
