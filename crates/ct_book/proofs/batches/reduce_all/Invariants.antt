use Rattle.std.proofs.Common.{vec_len}
use Rattle.ct_instance.specs.Instance.{IsPoint}
use Rattle.ct_book.proofs.BatchRuns.{HasReduced}
use Rattle.ct_book.proofs.batches.reduce_all.Given as goal

abbrev pub invariant-loop-job : goal.invariant-loop-job
invariant-loop-job l = record {
  reduced : HasReduced l.version l.initial.jobs.items l.jobs.items l.left.items;
  first_point : IsPoint l.version.instance l.p;
  second_point : IsPoint l.version.instance l.q;
}

abbrev pub decreases-loop-job : goal.decreases-loop-job
decreases-loop-job l = vec_len l.jobs
