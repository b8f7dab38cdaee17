use Rattle.ct_box.proofs.FullGrades.{full_some, full_none}
use Rattle.ct_box.proofs.laws.box_full_grade_is_found.Goals as goal

pub returns-clause-found : goal.returns-clause-found
returns-clause-found c = full_some

pub returns-clause-none : goal.returns-clause-none
returns-clause-none c = full_none
