use Rattle.ct_instance.proofs.JobsList.{jobs_listed, jobs_of_grade_listed, jobs_up_to_listed, jobs_counted}
use Rattle.ct_instance.proofs.laws.jobs_are_listed.Goals as goal

pub returns-clause-all : goal.returns-clause-all
returns-clause-all c = jobs_listed

pub returns-clause-grade : goal.returns-clause-grade
returns-clause-grade c = jobs_of_grade_listed

pub returns-clause-up_to_grade : goal.returns-clause-up_to_grade
returns-clause-up_to_grade c = jobs_up_to_listed

pub returns-clause-count : goal.returns-clause-count
returns-clause-count c = jobs_counted
