use Rattle.std.proofs.Common.{◌≡◌, ◌++◌, take, map}
use Rattle.std.specs.Fmt.{signed_decimal}
use Rattle.ct_lines.specs.Texts.{spaced}
use Rattle.ct_lines.proofs.print.push_signeds.Given as goal

abbrev pub invariant-loop-number : goal.invariant-loop-number
invariant-loop-number l = l.out.items ≡ l.initial.out.items ++ spaced (map signed_decimal (take l.number-index l.numbers))
