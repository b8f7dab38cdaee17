-- The number with which the program ends.
use Rattle.std.specs.Prelude.{ℕ}
use Rattle.ct_run.specs.declared.status.Status.{Status}
use Rattle.ct_run.specs.declared.status.Status.TheVariants.{Done, Usage, BadInstance, BadSessions, ReadFault, WriteFault, Memory, BadLedger, LedgerRefused, Full, NotReduced, TooMany}

abbrev pub number_of : Status → ℕ
number_of Done = 0
number_of Usage = 2
number_of BadInstance = 3
number_of BadSessions = 4
number_of ReadFault = 5
number_of WriteFault = 6
number_of Memory = 7
number_of BadLedger = 8
number_of LedgerRefused = 9
number_of Full = 10
number_of NotReduced = 11
number_of TooMany = 12
