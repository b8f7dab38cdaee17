use Rattle.std.proofs.Common.{◌+◌, arith, sym, subst, IsTrue, false}
use Rattle.ct_index.proofs.BitFacts.{AreMarkedTo, marked_not, marked_more, marked_all}
use Rattle.ct_index.proofs.table.mark.Goals as goal
use Rattle.ct_index.proofs.table.mark.Goals.{then-is_above, else-is_above}

pub loop-r-preserved : goal.loop-r-preserved
loop-r-preserved c =
    elim c.if-is_above.branch [
      | then-is_above w ↦
          subst (λ rows. AreMarkedTo c.args.rows.now rows c.args.head.now c.args.index (c.loop-r.r + 1)) (sym w.rows-is)
          (marked_more c.args.rows.now c.loop-r.rows c.args.head.now c.args.index c.loop-r.r (omega arith) c.requires (c.is_above.ensures.0 w.if-is_above.true) c.loop-r.invariant)
      | else-is_above w ↦
          subst (λ rows. AreMarkedTo c.args.rows.now rows c.args.head.now c.args.index (c.loop-r.r + 1)) (sym w.rows-is)
          (marked_not c.args.rows.now c.loop-r.rows c.args.head.now c.args.index c.loop-r.r (λ a. let no : IsTrue false = w.if-is_above.ensures.1 a in cc) c.loop-r.invariant)
    ]

pub returns : goal.returns
returns c = record {
  count = c.loop-r.auto.rows;
  bits = λ r j l. marked_all c.args.rows.now c.loop-r.rows c.args.head.now c.args.index c.loop-r.r c.loop-r.invariant r j (omega arith);
}
