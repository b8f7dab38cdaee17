use Rattle.std.proofs.Common.{◌-◌}
use Rattle.ct_book.proofs.RunsOn.{IsUnderWay}
use Rattle.ct_book.proofs.completing.complete.Given as goal

abbrev pub invariant-loop-helped : goal.invariant-loop-helped
invariant-loop-helped l = IsUnderWay l.initial.book l.target l.book

abbrev pub decreases-loop-helped : goal.decreases-loop-helped
decreases-loop-helped l = l.target - l.book.state.number
