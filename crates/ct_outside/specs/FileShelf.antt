-- What an error of opening or reading a file says of it.
use Rattle.std.specs.declared.io.ErrorKind.{ErrorKind}
use Rattle.std.specs.declared.io.ErrorKind.TheVariants.{OutOfMemory}
use Rattle.ct_outside.specs.declared.fetch_fault.FetchFault.{FetchFault}
use Rattle.ct_outside.specs.declared.fetch_fault.FetchFault.TheVariants.{Failed, Memory}

-- want of memory is no fault of the file
abbrev pub fault_of_kind : ErrorKind → FetchFault
fault_of_kind OutOfMemory = Memory
fault_of_kind _ = Failed
