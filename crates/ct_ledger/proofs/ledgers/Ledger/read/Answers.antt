use Rattle.ct_ledger.proofs.LedgerMachine.{ledger_from_found, ledger_fault}
use Rattle.ct_ledger.proofs.ledgers.Ledger.read.Goals as goal

pub returns : goal.returns
returns c = record { ok = ledger_from_found c.args.bytes.now c.ledger_of.result c.ledger_of.ensures; fault = ledger_fault c.args.bytes.now c.ledger_of.result c.ledger_of.ensures }
