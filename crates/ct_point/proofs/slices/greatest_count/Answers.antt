use Rattle.std.proofs.Common.{◌≡◌, ◌<◌, ◌^◌, ◌+◌, get_or, arith, subst, sym}
use Rattle.ct_point.proofs.Counts.{IsLeastQuotient, IsLeastQuotient-same, IsLeastQuotient-lower, IsTimes-from}
use Rattle.ct_point.proofs.slices.greatest_count.Goals as goal
use Rattle.ct_point.proofs.slices.greatest_count.Goals.{then-head-i-gt0, else-head-i-gt0}

pub loop-i-preserved : goal.loop-i-preserved
loop-i-preserved c =
    let small : get_or c.args.p.now c.loop-i.i 0 < 2 ^ 64 = omega (arith, c.type_inv.p c.loop-i.i) in
    elim c.if-head-i-gt0.branch [
      | then-head-i-gt0 w ↦ IsLeastQuotient-lower c.args.head.now c.args.p.now c.loop-i.times c.if-head-i-gt0.times c.loop-i.i (omega arith) small (omega (arith, w.min-times.ensures)) c.loop-i.invariant
      | else-head-i-gt0 w ↦
          let none : get_or c.args.head.now c.loop-i.i 0 ≡ 0 = omega arith in
          subst (λ t. IsLeastQuotient c.args.head.now c.args.p.now t (c.loop-i.i + 1)) (sym w.times-is) (IsLeastQuotient-same c.args.head.now c.args.p.now c.loop-i.times c.loop-i.i none c.loop-i.invariant)
    ]

pub returns : goal.returns
returns c = IsTimes-from c.args.head.now c.args.p.now c.loop-i.times c.loop-i.i c.requires.width (omega arith) c.requires.positive c.loop-i.invariant
