use Rattle.std.proofs.Common.{◌≡◌, ◌<◌, ◌-◌, ◌++◌, map, max, length}
use Rattle.ct_jobs.specs.GradedJobs.{with_grade, row_from}
use Rattle.ct_jobs.specs.Kept.{pair_of}
use Rattle.ct_jobs.proofs.addition.add_row.Given as goal

abbrev pub invariant-loop-k : goal.invariant-loop-k
invariant-loop-k l = record {
  pairs : map pair_of l.pairs.items ≡ map pair_of l.initial.pairs.items ++ map (with_grade l.inst l.moves.moves) (row_from l.from l.i l.k);
  start : length l.moves.moves < l.k → l.k ≡ max l.i (l.from - 1);
}
