use Rattle.ct_checker.proofs.Accepted.{ledger_decides, steps_show}
use Rattle.ct_checker.proofs.laws.accepted_ledgers_decide.Goals as goal

pub returns-clause-decides : goal.returns-clause-decides
returns-clause-decides c = ledger_decides

pub returns-clause-steps : goal.returns-clause-steps
returns-clause-steps c = steps_show
