use Rattle.std.proofs.Common.{◌≡◌, ◌+◌, ◌*◌, ◌-◌, ◌≤◌, ◌<◌, ◌^◌, length, get_or, arith}
use Rattle.ct_point.proofs.InPlace.{get_or-written, IsWritten-more, IsWritten-all}
use Rattle.ct_point.proofs.Shifts.{shifted, length-shifted, get_or-shifted, multiple-at}
use Rattle.ct_point.proofs.slices.shift_by.Goals as goal

pub overflow_mul-p : goal.overflow_mul-p
overflow_mul-p c =
    let at_most : c.args.times * get_or c.args.head.now c.loop-i.i 0 ≤ get_or c.args.p.now c.loop-i.i 0 = multiple-at c.args.times c.args.head.now c.args.p.now c.requires.at_most c.loop-i.i in
    let here : get_or c.loop-i.p c.loop-i.i 0 ≡ get_or c.args.p.now c.loop-i.i 0 = get_or-written (shifted c.args.times c.args.p.now c.args.head.now c.args.tail.now) c.args.p.now c.loop-i.p c.loop-i.i c.loop-i.invariant in
    omega (arith, c.type_inv.p c.loop-i.i)

pub overflow_sub-p : goal.overflow_sub-p
overflow_sub-p c =
    let at_most : c.args.times * get_or c.args.head.now c.loop-i.i 0 ≤ get_or c.args.p.now c.loop-i.i 0 = multiple-at c.args.times c.args.head.now c.args.p.now c.requires.at_most c.loop-i.i in
    let here : get_or c.loop-i.p c.loop-i.i 0 ≡ get_or c.args.p.now c.loop-i.i 0 = get_or-written (shifted c.args.times c.args.p.now c.args.head.now c.args.tail.now) c.args.p.now c.loop-i.p c.loop-i.i c.loop-i.invariant in
    omega arith

pub overflow_mul-p-in-loop-i : goal.overflow_mul-p-in-loop-i
overflow_mul-p-in-loop-i c =
    let len : length (shifted c.args.times c.args.p.now c.args.head.now c.args.tail.now) ≡ length c.args.p.now = length-shifted c.args.times c.args.p.now c.args.head.now c.args.tail.now c.requires.tail_width in
    let sum : get_or (shifted c.args.times c.args.p.now c.args.head.now c.args.tail.now) c.loop-i.i 0 ≡ get_or c.args.p.now c.loop-i.i 0 - c.args.times * get_or c.args.head.now c.loop-i.i 0 + c.args.times * get_or c.args.tail.now c.loop-i.i 0 = get_or-shifted c.args.times c.args.p.now c.args.head.now c.args.tail.now c.loop-i.i in
    let fits : get_or (shifted c.args.times c.args.p.now c.args.head.now c.args.tail.now) c.loop-i.i 0 < 2 ^ 64 = c.requires.fits c.loop-i.i 0 (omega arith) in
    omega arith

pub overflow_add-p : goal.overflow_add-p
overflow_add-p c =
    let len : length (shifted c.args.times c.args.p.now c.args.head.now c.args.tail.now) ≡ length c.args.p.now = length-shifted c.args.times c.args.p.now c.args.head.now c.args.tail.now c.requires.tail_width in
    let sum : get_or (shifted c.args.times c.args.p.now c.args.head.now c.args.tail.now) c.loop-i.i 0 ≡ get_or c.args.p.now c.loop-i.i 0 - c.args.times * get_or c.args.head.now c.loop-i.i 0 + c.args.times * get_or c.args.tail.now c.loop-i.i 0 = get_or-shifted c.args.times c.args.p.now c.args.head.now c.args.tail.now c.loop-i.i in
    let fits : get_or (shifted c.args.times c.args.p.now c.args.head.now c.args.tail.now) c.loop-i.i 0 < 2 ^ 64 = c.requires.fits c.loop-i.i 0 (omega arith) in
    let here : get_or c.loop-i.p c.loop-i.i 0 ≡ get_or c.args.p.now c.loop-i.i 0 = get_or-written (shifted c.args.times c.args.p.now c.args.head.now c.args.tail.now) c.args.p.now c.loop-i.p c.loop-i.i c.loop-i.invariant in
    omega arith

pub loop-i-preserved : goal.loop-i-preserved
loop-i-preserved c =
    let len : length (shifted c.args.times c.args.p.now c.args.head.now c.args.tail.now) ≡ length c.args.p.now = length-shifted c.args.times c.args.p.now c.args.head.now c.args.tail.now c.requires.tail_width in
    let here : get_or c.loop-i.p c.loop-i.i 0 ≡ get_or c.args.p.now c.loop-i.i 0 = get_or-written (shifted c.args.times c.args.p.now c.args.head.now c.args.tail.now) c.args.p.now c.loop-i.p c.loop-i.i c.loop-i.invariant in
    let sum : get_or (shifted c.args.times c.args.p.now c.args.head.now c.args.tail.now) c.loop-i.i 0 ≡ get_or c.args.p.now c.loop-i.i 0 - c.args.times * get_or c.args.head.now c.loop-i.i 0 + c.args.times * get_or c.args.tail.now c.loop-i.i 0 = get_or-shifted c.args.times c.args.p.now c.args.head.now c.args.tail.now c.loop-i.i in
    IsWritten-more (shifted c.args.times c.args.p.now c.args.head.now c.args.tail.now) c.args.p.now c.loop-i.p c.loop-i.i (get_or c.loop-i.p c.loop-i.i 0 - c.args.times * get_or c.args.head.now c.loop-i.i 0 + c.args.times * get_or c.args.tail.now c.loop-i.i 0) (omega arith) (omega arith) (omega arith) (omega arith) c.loop-i.invariant

pub returns : goal.returns
returns c =
    let len : length (shifted c.args.times c.args.p.now c.args.head.now c.args.tail.now) ≡ length c.args.p.now = length-shifted c.args.times c.args.p.now c.args.head.now c.args.tail.now c.requires.tail_width in
    IsWritten-all (shifted c.args.times c.args.p.now c.args.head.now c.args.tail.now) c.args.p.now c.loop-i.p c.loop-i.i (omega arith) (omega arith) c.loop-i.invariant
