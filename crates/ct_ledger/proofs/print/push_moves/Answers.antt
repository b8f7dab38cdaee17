use Rattle.std.proofs.Common.{◌<◌, length, arith}
use Rattle.ct_lines.proofs.Printed.{text_more}
use Rattle.ct_ledger.specs.LedgerText.{move_words}
use Rattle.ct_ledger.proofs.print.push_moves.Goals as goal

pub loop-head-preserved : goal.loop-head-preserved
loop-head-preserved c =
    let inside : c.loop-head.head-index < length c.args.moves.now = omega arith in
    rw (c.in_ok-push_move.ensures, c.as_slice.ensures.coordinates, c.as_slice-in-loop-head.ensures.coordinates, c.loop-head.invariant) (text_more move_words c.args.out.now.items c.args.moves.now c.loop-head.head-index c.loop-head-item.result inside c.loop-head-item.is)
