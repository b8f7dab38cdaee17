use Rattle.ct_run.specs.Plan.{batch_plan_in}
use Rattle.ct_run.proofs.Followed.{run_says}
use Rattle.ct_run.proofs.calls.run_batch.Goals as goal

pub returns-clause-written : goal.returns-clause-written
returns-clause-written g c =
    (run_says g.S.Shelf.told g.S.Shelf.faults g.O.Sink.held g.O.Sink.faults (batch_plan_in c.args.words.now) c.args.shelf.now c.batch_run_ending-ended.new.shelf c.args.out.now c.finished.new.out
    c.batch_run_ending-ended.ensures.kept c.batch_run_ending-ended.ensures.later c.finished.ensures.later c.batch_run_ending-ended.result c.finished.result c.batch_run_ending-ended.ensures.ran c.finished.ensures.finished).0

pub returns-clause-follows : goal.returns-clause-follows
returns-clause-follows g c =
    (run_says g.S.Shelf.told g.S.Shelf.faults g.O.Sink.held g.O.Sink.faults (batch_plan_in c.args.words.now) c.args.shelf.now c.batch_run_ending-ended.new.shelf c.args.out.now c.finished.new.out
    c.batch_run_ending-ended.ensures.kept c.batch_run_ending-ended.ensures.later c.finished.ensures.later c.batch_run_ending-ended.result c.finished.result c.batch_run_ending-ended.ensures.ran c.finished.ensures.finished).1
