use Rattle.std.proofs.Common.{refl, get_or}
use Rattle.ct_index.proofs.BitFacts.{excluded_more}
use Rattle.ct_index.proofs.table.excluded.Goals as goal

pub loop-i-preserved : goal.loop-i-preserved
loop-i-preserved c =
    excluded_more c.args.rows.now c.args.places.now c.loop-i.i c.loop-i.out (get_or c.args.rows.now (get_or c.args.places.now c.loop-i.i 0) 0) refl c.loop-i.invariant
