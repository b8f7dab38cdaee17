use Rattle.ct_ledger.proofs.LedgerMachine.{one_ledger}
use Rattle.ct_ledger.proofs.laws.one_ledger_of_a_text.Goals as goal

pub returns : goal.returns
returns c = one_ledger
