use Rattle.ct_completion.proofs.OnePass.{journal_to_is_replayed, opened_jobs_of_whole}
use Rattle.ct_completion.proofs.laws.journal_in_job_order_is_replayed.Goals as goal

pub returns-clause-replayed : goal.returns-clause-replayed
returns-clause-replayed c = journal_to_is_replayed

pub returns-clause-jobs : goal.returns-clause-jobs
returns-clause-jobs c = opened_jobs_of_whole
