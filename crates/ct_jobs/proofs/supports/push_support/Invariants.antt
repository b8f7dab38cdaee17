use Rattle.std.proofs.Common.{◌≡◌, ◌++◌}
use Rattle.ct_jobs.specs.Supports.{support_below}
use Rattle.ct_jobs.proofs.supports.push_support.Given as goal

abbrev pub invariant-loop-place : goal.invariant-loop-place
invariant-loop-place l = l.parts.items ≡ l.initial.parts.items ++ support_below l.sums l.head l.place
