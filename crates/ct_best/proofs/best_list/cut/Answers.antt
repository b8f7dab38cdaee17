use Rattle.std.proofs.Common.{take, set, ap, ◌∙◌, arith}
use Rattle.std.proofs.lemmas.List.Edits.{map_over_more}
use Rattle.ct_best.proofs.best_list.cut.Goals as goal

pub loop-k-preserved : goal.loop-k-preserved
loop-k-preserved c =
    ap (set c.loop-k.points.items c.loop-k.k) c.truncate.ensures ∙
    map_over_more (take c.args.columns) c.args.points.now.items c.loop-k.points.items c.loop-k.k c.index_mut.result.now (omega (arith, c.loop-k-test.true, c.len-k-end.ensures)) c.loop-k.invariant c.index_mut.ensures.value
