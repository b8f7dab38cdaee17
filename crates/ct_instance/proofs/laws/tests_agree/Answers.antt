use Rattle.ct_vectors.proofs.Divisors.{Divides-from_test, test_from_Divides}
use Rattle.ct_instance.proofs.Fiber.{improvable_test, improvable_not_least}
use Rattle.ct_instance.proofs.TestHeads.{test_head_test}
use Rattle.ct_instance.proofs.SameJobs.{same_job_test}
use Rattle.ct_instance.proofs.laws.tests_agree.Goals as goal

pub returns-clause-improvable : goal.returns-clause-improvable
returns-clause-improvable c = improvable_test

pub returns-clause-test_head : goal.returns-clause-test_head
returns-clause-test_head c = test_head_test

pub returns-clause-divides : goal.returns-clause-divides
returns-clause-divides c = λ h p. (Divides-from_test h p, test_from_Divides h p)

pub returns-clause-not_least : goal.returns-clause-not_least
returns-clause-not_least c = improvable_not_least

pub returns-clause-same_job : goal.returns-clause-same_job
returns-clause-same_job c = same_job_test
