use Rattle.std.proofs.Common.{get_or}
use Rattle.std.proofs.lemmas.List.{get_or_default}
use Rattle.ct_instance.specs.declared.jobs.Job.{Job}
use Rattle.ct_instance.specs.declared.jobs.Job.TheVariants.{Generator}
use Rattle.ct_box.proofs.BroughtMoves.{leaves_next}
use Rattle.ct_box.proofs.reducing.points_left.Goals as goal

pub loop-job-preserved : goal.loop-job-preserved
loop-job-preserved c =
    let job : Job = get_or c.args.jobs.now c.loop-job.job-index (Generator 0) in
    record {
      left = leaves_next c.args.moves.now.instance c.args.moves.now.moves c.args.top.now c.args.jobs.now c.loop-job.job-index job c.loop-job.points.items c.push_within.new.points.items
          c.loop-job-test.true (get_or_default c.args.jobs.now c.loop-job.job-index (Generator 0) job c.loop-job-test.true) c.loop-job.invariant.left c.in_ok-push_within.ensures.left;
      first = c.push_within.ensures.first_stays_point;
      second = c.push_within.ensures.second_stays_point;
    }
