use Rattle.std.proofs.Common.{◌+◌, ◌-◌}
use Rattle.std.specs.Arc.{arc_value}
use Rattle.ct_box.proofs.BoxRuns.{IsBoxRun}
use Rattle.ct_box.proofs.filling.complete_box.Given as goal

abbrev pub invariant-loop-grade : goal.invariant-loop-grade
invariant-loop-grade l = IsBoxRun (arc_value l.inst) l.beta l.limit l.last l.moves l.buckets.jobs

abbrev pub decreases-loop-grade : goal.decreases-loop-grade
decreases-loop-grade l = l.most + 1 - l.last
