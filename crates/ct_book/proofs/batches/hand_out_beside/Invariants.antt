use Rattle.std.proofs.Common.{◌≤◌, ◌<◌, ◌-◌, length, vec_capacity, vec_len}
use Rattle.ct_book.proofs.BatchRuns.{HasHandedOut}
use Rattle.ct_book.proofs.batches.hand_out_beside.Given as goal

abbrev pub invariant-loop-jobs : goal.invariant-loop-jobs
invariant-loop-jobs l = record {
  handed : HasHandedOut l.initial.book l.jobs.items l.book;
  room : l.most ≤ vec_capacity l.jobs;
  waits : 0 < length (l.book.state).queue;
}

abbrev pub decreases-loop-jobs : goal.decreases-loop-jobs
decreases-loop-jobs l = l.most - vec_len l.jobs
