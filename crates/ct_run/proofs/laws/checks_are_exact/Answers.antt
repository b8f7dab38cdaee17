use Rattle.ct_checker.specs.Checking.{verdict_of}
use Rattle.ct_run.specs.Checked.{IsVerdictEnding}
use Rattle.ct_run.specs.Resumption.{IsResumption}
use Rattle.ct_run.proofs.LedgerFiles.{ledger_weighed, bad_is_none}
use Rattle.ct_run.proofs.laws.checks_are_exact.Goals as goal

pub returns-clause-ledger : goal.returns-clause-ledger
returns-clause-ledger c = λ i bytes status text. ledger_weighed bytes status text (λ l. IsVerdictEnding i l (verdict_of i l) status text)

pub returns-clause-none : goal.returns-clause-none
returns-clause-none c = bad_is_none

pub returns-clause-resumed : goal.returns-clause-resumed
returns-clause-resumed c = λ case script bytes status text. ledger_weighed bytes status text (λ l. IsResumption case script l status text)
