use Rattle.std.proofs.Common.{map, take, decimal}
use Rattle.ct_lines.specs.Texts.{spaced}
use Rattle.ct_lines.proofs.Printed.{in_front}
use Rattle.ct_lines.proofs.print.push_numbers.Goals as goal

pub returns-in_err-push_number-clause-err : goal.returns-in_err-push_number-clause-err
returns-in_err-push_number-clause-err c =
    in_front c.from_residual.result c.args.out.now.items (spaced (map decimal (take c.loop-number.number-index c.args.numbers.now))) c.loop-number.out.items c.push_number.new.out.items c.loop-number.invariant c.in_err-push_number.ensures.err
