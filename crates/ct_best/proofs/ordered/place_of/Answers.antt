use Rattle.std.proofs.Common.{◌+◌, ◌-◌, ◌/◌, ◌<◌, length, arith}
use Rattle.ct_best.proofs.Frontier.{below_upto}
use Rattle.ct_best.proofs.ordered.place_of.Goals as goal

pub loop-low-preserved-then-is_below : goal.loop-low-preserved-then-is_below
loop-low-preserved-then-is_below c =
    let inside : c.loop-low.low + (c.loop-low.high - c.loop-low.low) / 2 < length c.args.found.now = omega (arith, c.loop-low-test.true, c.loop-low.invariant.within) in
    record {
      ordered = omega (arith, c.loop-low-test.true);
      within = c.loop-low.invariant.within;
      before = λ t l. below_upto c.args.inst.now c.args.found.now c.args.s.now (c.loop-low.low + (c.loop-low.high - c.loop-low.low) / 2) t c.index-found-middle.result
          c.requires.ordered inside c.index-found-middle.is (c.is_below.ensures.0 c.if-is_below.true) l;
      not_below = c.loop-low.invariant.not_below;
    }
