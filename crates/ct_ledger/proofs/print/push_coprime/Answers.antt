use Rattle.ct_ledger.proofs.Written.{coprime_written}
use Rattle.ct_ledger.proofs.print.push_coprime.Goals as goal

pub returns : goal.returns
returns c = rw (c.in_ok-extend_from_slice.ensures.items, c.in_ok-push_job.ensures) (coprime_written c.args.out.now.items c.args.job)
