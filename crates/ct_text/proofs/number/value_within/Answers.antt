use Rattle.std.proofs.Common.{◌+◌, ◌*◌, ◌-◌, ◌<◌, length, get_or, drop, arith}
use Rattle.ct_text.proofs.Digits.{value_after-ge, value_after-drop}
use Rattle.ct_text.proofs.number.value_within.Goals as goal

-- the digits after these add to the value
pub returns-then-value-limit : goal.returns-then-value-limit
returns-then-value-limit c h =
    let i = c.loop-digit.digit-index in
    let digits = c.args.digits.now in
    let lt : i < length digits = omega arith in
    let n = c.loop-digit.value in
    omega (arith, value_after-drop n i digits lt, value_after-ge (n * 10 + (get_or digits i 0 - 48)) (drop (i + 1) digits), c.loop-digit.invariant.rest)
