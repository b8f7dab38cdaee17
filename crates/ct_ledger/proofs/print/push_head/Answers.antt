use Rattle.ct_ledger.proofs.Written.{head_written}
use Rattle.ct_ledger.proofs.print.push_head.Goals as goal

pub returns : goal.returns
returns c = rw (c.in_ok-extend_from_slice-3.ensures.items, c.in_ok-push_number-3.ensures.ok, c.in_ok-extend_from_slice-2.ensures.items, c.in_ok-push_number-2.ensures.ok, c.in_ok-push_number.ensures.ok, c.in_ok-extend_from_slice.ensures.items, c.from.ensures, c.from-2.ensures) (head_written c.args.out.now.items c.args.rows c.args.columns c.args.grade)
