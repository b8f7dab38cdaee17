use Rattle.std.proofs.Common.{◌≡◌, ◌≤◌, drop}
use Rattle.ct_text.specs.Numbers.{value_after, value_of}
use Rattle.ct_text.proofs.number.value_within.Given as goal

-- The digits that are left complete the number.
abbrev pub invariant-loop-digit : goal.invariant-loop-digit
invariant-loop-digit l = record { bound : l.value ≤ l.limit; rest : value_after l.value (drop l.digit-index l.digits) ≡ value_of l.digits }
