use Rattle.std.proofs.Common.{codes}
use Rattle.ct_lines.specs.Texts.{walk_words}
use Rattle.ct_report.proofs.Written.{line_of_written}
use Rattle.ct_report.proofs.print.push_walk_line.Goals as goal

pub returns : goal.returns
returns c = rw (c.in_ok-extend_from_slice-2.ensures.items, c.in_ok-push_walk.ensures.ok, c.in_ok-extend_from_slice.ensures.items) (line_of_written c.args.out.now.items (codes "walk") (walk_words c.args.steps.now))
