use Rattle.ct_levels.proofs.Whole.{opened_of_whole}
use Rattle.ct_levels.proofs.Counting.{grades_count}
use Rattle.ct_levels.proofs.laws.whole_list_tells_openings.Goals as goal

pub returns-clause-opened : goal.returns-clause-opened
returns-clause-opened c = opened_of_whole

pub returns-clause-count : goal.returns-clause-count
returns-clause-count c = grades_count
