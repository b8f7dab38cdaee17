-- What a refused instance is for the reader of its text.
use Rattle.ct_instance.specs.declared.refusals.BadMatrix.{BadMatrix}
use Rattle.ct_instance.specs.declared.refusals.BadMatrix.TheVariants.{ZeroColumn, Memory}
use Rattle.ct_input.specs.declared.fault.TextReason.TheVariants as reasons
use Rattle.ct_input.specs.declared.fault.InputStop.{InputStop}
use Rattle.ct_input.specs.declared.fault.InputStop.TheVariants as stops
use Rattle.ct_input.specs.Sheet.{Sheet, fault_next}
use Rattle.ct_input.specs.Files.{entry_sheet}

abbrev pub stop_of : Sheet → BadMatrix → InputStop
stop_of sheet (ZeroColumn column) = stops.Fault (fault_next reasons.ZeroColumn (entry_sheet sheet column))
stop_of sheet Memory = stops.Memory
