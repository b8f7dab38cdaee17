use Rattle.ct_levels.proofs.Full.{opened_is_full, full_is_opened, below_full, full_some, full_none}
use Rattle.ct_levels.proofs.laws.full_grade_is_opened.Goals as goal

pub returns-clause-full : goal.returns-clause-full
returns-clause-full c = opened_is_full

pub returns-clause-opened : goal.returns-clause-opened
returns-clause-opened c = full_is_opened

pub returns-clause-below : goal.returns-clause-below
returns-clause-below c = below_full

pub returns-clause-found : goal.returns-clause-found
returns-clause-found c = full_some

pub returns-clause-none : goal.returns-clause-none
returns-clause-none c = full_none
