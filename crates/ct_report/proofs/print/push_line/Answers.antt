use Rattle.std.proofs.Common.{[], ◌∷◌, decimal}
use Rattle.ct_report.proofs.Written.{line_of_written}
use Rattle.ct_report.proofs.print.push_line.Goals as goal

pub returns : goal.returns
returns c = rw (c.in_ok-extend_from_slice-2.ensures.items, c.in_ok-push_number.ensures.ok, c.in_ok-extend_from_slice.ensures.items) (line_of_written c.args.out.now.items c.args.word.now (decimal c.args.number ∷ []))
