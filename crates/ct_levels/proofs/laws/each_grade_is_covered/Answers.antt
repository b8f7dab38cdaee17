use Rattle.std.proofs.Common.{sym}
use Rattle.ct_instance.specs.Reach.{first_version_from}
use Rattle.ct_levels.proofs.Covering.{first_version, first_version_is, first_is_version, test_list_of_first}
use Rattle.ct_levels.proofs.laws.each_grade_is_covered.Goals as goal

pub returns-clause-one : goal.returns-clause-one
returns-clause-one c = first_version

pub returns-clause-version : goal.returns-clause-version
returns-clause-version c = first_is_version

pub returns-clause-list : goal.returns-clause-list
returns-clause-list c = λ i s g. sym (test_list_of_first i s g (first_version_from i g) (first_version_is i g))
