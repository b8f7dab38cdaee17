use Rattle.ct_lines.proofs.Machines.{no_prefix}
use Rattle.ct_ledger.proofs.LedgerMachine.{ledger_machine}
use Rattle.ct_ledger.proofs.laws.no_ledger_text_is_a_prefix.Goals as goal

pub returns : goal.returns
returns c text rest is longer = no_prefix ledger_machine text rest is longer
