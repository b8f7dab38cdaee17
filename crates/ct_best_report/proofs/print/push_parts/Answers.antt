use Rattle.std.proofs.Common.{◌≡◌, ◌++◌, rules}
use Rattle.std.specs.Fmt.{signed_decimal}
use Rattle.ct_best_report.proofs.Written.{parts_written}
use Rattle.ct_best_report.proofs.print.push_parts.Goals as goal

pub returns : goal.returns
returns c =
    let first : c.push_signed.new.out.items ≡ c.args.out.now.items ++ signed_decimal c.args.first = search rules in
    rw (c.in_ok-extend_from_slice-2.ensures.items, c.in_ok-push_numbers.ensures.ok, c.in_ok-extend_from_slice.ensures.items, c.in_ok-push_signeds.ensures.ok, first) (parts_written c.args.out.now.items c.args.first c.args.others.now c.args.point.now)
