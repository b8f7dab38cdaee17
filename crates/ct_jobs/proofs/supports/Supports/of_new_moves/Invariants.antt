use Rattle.std.proofs.Common.{◌≡◌}
use Rattle.ct_jobs.specs.Supports.{supports_between}
use Rattle.ct_jobs.proofs.supports.Supports.of_new_moves.Given as goal

abbrev pub invariant-loop-k : goal.invariant-loop-k
invariant-loop-k l = l.supports ≡ supports_between l.inst l.moves.moves l.known l.k
