use Rattle.std.proofs.Common.{get_or}
use Rattle.std.proofs.lemmas.List.{get_or_default}
use Rattle.ct_instance.specs.declared.jobs.Job.{Job}
use Rattle.ct_instance.specs.declared.jobs.Job.TheVariants.{Generator}
use Rattle.ct_solo.proofs.KeptJobs.{leaves_more}
use Rattle.ct_solo.proofs.reducing.points_left.Goals as goal

pub loop-job-preserved : goal.loop-job-preserved
loop-job-preserved c =
    let left = c.in_ok-push_left.ensures.left in
    let job : Job = get_or c.args.jobs.now c.loop-job.job-index (Generator 0) in
    record {
      left = leaves_more c.args.moves.now.instance c.args.moves.now.moves c.args.jobs.now c.loop-job.job-index job c.loop-job.points.items c.push_left.new.points.items left.0
          c.loop-job-test.true (get_or_default c.args.jobs.now c.loop-job.job-index (Generator 0) job c.loop-job-test.true) c.loop-job.invariant.left left.1 left.2;
      first = c.push_left.ensures.first_stays_point;
      second = c.push_left.ensures.second_stays_point;
    }
