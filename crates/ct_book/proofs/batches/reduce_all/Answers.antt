use Rattle.ct_book.proofs.BatchRuns.{reduces_more}
use Rattle.ct_book.proofs.batches.reduce_all.Goals as goal

pub loop-job-preserved : goal.loop-job-preserved
loop-job-preserved c = record {
  reduced = reduces_more c.args.version.now c.args.jobs.now.items c.loop-job.jobs.items c.pop.new.self.items c.in-Some.job c.loop-job.left.items c.push.new.self.items c.in_ok-left_of_job.field-0
      c.loop-job.invariant.reduced c.in-Some.ensures.items c.in_ok-push.ensures.items c.in_ok-left_of_job.ensures.held c.in_ok-left_of_job.ensures.task;
  first_point = c.left_of_job.ensures.first_stays_point;
  second_point = c.left_of_job.ensures.second_stays_point;
}
