-- Want of memory, the one answer that is free.
use Rattle.std.specs.Prelude.{◌≡◌, ⊤, Option, Some, None, Result, Ok, Err}
use Rattle.ct_outside.specs.declared.fetch_fault.FetchFault.{FetchFault}
use Rattle.ct_outside.specs.declared.fetch_fault.FetchFault.TheVariants.{Failed, TooLong, Memory}

-- the answer has this fault, or none, unless memory ran out
abbrev pub IsUnlessMemory : Result (Unit {0}) FetchFault → Option FetchFault → Type 0
IsUnlessMemory (Ok _) fault = fault ≡ None
IsUnlessMemory (Err Failed) fault = fault ≡ Some Failed
IsUnlessMemory (Err TooLong) fault = fault ≡ Some TooLong
IsUnlessMemory (Err Memory) fault = ⊤
