use Rattle.std.proofs.Common.{◌+◌, arith, sym, subst}
use Rattle.ct_index.proofs.BitFacts.{IsSupportTo, support_not, support_more, support_all}
use Rattle.ct_index.proofs.support.support_of.Goals as goal
use Rattle.ct_index.proofs.support.support_of.Goals.{then-p-i-gt0, else-p-i-gt0}

pub loop-i-preserved : goal.loop-i-preserved
loop-i-preserved c =
    elim c.if-p-i-gt0.branch [
      | then-p-i-gt0 w ↦
          subst (IsSupportTo c.args.p.now (c.loop-i.i + 1)) (sym w.support-is)
          (support_more c.args.p.now c.loop-i.i c.loop-i.support (omega arith) (omega arith) c.loop-i.invariant)
      | else-p-i-gt0 w ↦
          subst (IsSupportTo c.args.p.now (c.loop-i.i + 1)) (sym w.support-is)
          (support_not c.args.p.now c.loop-i.i c.loop-i.support (omega arith) c.loop-i.invariant)
    ]

pub returns : goal.returns
returns c = support_all c.args.p.now c.loop-i.i c.loop-i.support (omega arith) c.loop-i.invariant
