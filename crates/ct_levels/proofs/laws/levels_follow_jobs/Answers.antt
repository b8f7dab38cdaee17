use Rattle.ct_levels.proofs.Bounds.{opened_within}
use Rattle.ct_levels.proofs.Levels.{opened_is_next, covers_opened, levels_rise, number_within, version_before}
use Rattle.ct_levels.proofs.Lists.{opened_has_job}
use Rattle.ct_levels.proofs.laws.levels_follow_jobs.Goals as goal

pub returns-clause-opened : goal.returns-clause-opened
returns-clause-opened c = opened_is_next

pub returns-clause-job : goal.returns-clause-job
returns-clause-job c = opened_has_job

pub returns-clause-within : goal.returns-clause-within
returns-clause-within c = opened_within

pub returns-clause-covered : goal.returns-clause-covered
returns-clause-covered c = covers_opened

pub returns-clause-rise : goal.returns-clause-rise
returns-clause-rise c = levels_rise

pub returns-clause-number : goal.returns-clause-number
returns-clause-number c = number_within

pub returns-clause-before : goal.returns-clause-before
returns-clause-before c = version_before
