use Rattle.ct_jobs.proofs.Growing.{jobs_grow, next_grade_of_all}
use Rattle.ct_jobs.proofs.OneGrade.{jobs_are_listed}
use Rattle.ct_jobs.proofs.laws.graded_jobs_are_all_jobs.Goals as goal

pub returns-clause-grow : goal.returns-clause-grow
returns-clause-grow c = jobs_grow

pub returns-clause-next : goal.returns-clause-next
returns-clause-next c = next_grade_of_all

pub returns-clause-grade : goal.returns-clause-grade
returns-clause-grade c = jobs_are_listed
