use Rattle.std.proofs.Common.{◌≡◌, ◌-◌}
use Rattle.ct_book.specs.Bringing.{IsBrought}
use Rattle.ct_book.proofs.bringing.brought_to.Given as goal

abbrev pub invariant-loop-alloc : goal.invariant-loop-alloc
invariant-loop-alloc l = record {
  brought : IsBrought l.inst l.grade l.number l.levels.items l.log.entries l.finished l.queue;
  passes : l.log.passes ≡ l.passes;
}

abbrev pub decreases-loop-alloc : goal.decreases-loop-alloc
decreases-loop-alloc l = l.grade - l.number
