use Rattle.ct_ledger.proofs.Written.{move_written}
use Rattle.ct_ledger.proofs.print.push_move.Goals as goal

pub returns : goal.returns
returns c = rw (c.in_ok-extend_from_slice-3.ensures.items, c.in_ok-push_numbers-2.ensures.ok, c.in_ok-extend_from_slice-2.ensures.items, c.in_ok-push_numbers.ensures.ok, c.in_ok-extend_from_slice.ensures.items) (move_written c.args.out.now.items c.args.head.now c.args.tail.now)
