use Rattle.ct_ledger.proofs.Written.{walks_written}
use Rattle.ct_ledger.proofs.print.push_walks.Goals as goal

pub returns : goal.returns
returns c = rw (c.in_ok-extend_from_slice-2.ensures.items, c.in_ok-push_walk-2.ensures.ok, c.in_ok-extend_from_slice.ensures.items, c.in_ok-push_walk.ensures.ok, c.in_ok-push_job.ensures) (walks_written c.args.out.now.items c.args.job c.args.first.now c.args.second.now)
