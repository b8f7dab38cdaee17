use Rattle.std.proofs.Common.{◌-◌}
use Rattle.ct_instance.specs.Instance.{column_count}
use Rattle.ct_slow.proofs.Fibers.{IsListing}
use Rattle.ct_slow.proofs.listing.+descend.Given as goal

abbrev pub decreases-descend : goal.decreases-descend
decreases-descend l = column_count l.inst.now - l.j

abbrev pub invariant-loop-x : goal.invariant-loop-x
invariant-loop-x l = IsListing l.inst l.j l.initial.point l.rest l.column l.initial.best l.x l.point l.left l.best
