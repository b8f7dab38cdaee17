use Rattle.std.proofs.Common.{◌≡◌, ◌+◌, take, sum_by}
use Rattle.ct_jobs.specs.Supports.{excess_over}
use Rattle.ct_jobs.proofs.supports.grade_with.Given as goal

abbrev pub invariant-loop-part : goal.invariant-loop-part
invariant-loop-part l = l.grade ≡ l.own + sum_by (excess_over l.p) (take l.part-index l.parts)
