use Rattle.std.proofs.Common.{◌-◌}
use Rattle.ct_solo.proofs.Runs.{IsUnderWay}
use Rattle.ct_solo.proofs.solos.Solo.complete.Given as goal

abbrev pub invariant-loop-alloc : goal.invariant-loop-alloc
invariant-loop-alloc l = IsUnderWay l.initial.self l.grade l.self

abbrev pub decreases-loop-alloc : goal.decreases-loop-alloc
decreases-loop-alloc l = l.grade - l.self.number
