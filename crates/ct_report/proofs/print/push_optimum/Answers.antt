use Rattle.ct_report.proofs.Written.{optimum_written}
use Rattle.ct_report.proofs.print.push_optimum.Goals as goal

pub returns : goal.returns
returns c = rw (c.in_ok-extend_from_slice-3.ensures.items, c.in_ok-push_numbers.ensures.ok, c.in_ok-extend_from_slice-2.ensures.items, c.in_ok-push_signeds.ensures.ok, c.in_ok-extend_from_slice.ensures.items) (optimum_written c.args.out.now.items c.args.point.now c.args.costs.now)
