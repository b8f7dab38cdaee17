use Rattle.ct_levels.proofs.Lists.{version_list_is, later_list}
use Rattle.ct_levels.proofs.laws.versions_have_test_lists.Goals as goal

pub returns-clause-list : goal.returns-clause-list
returns-clause-list c = version_list_is

pub returns-clause-later : goal.returns-clause-later
returns-clause-later c = later_list
