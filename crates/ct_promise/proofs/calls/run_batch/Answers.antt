use Rattle.ct_run.specs.Plan.{batch_plan_in}
use Rattle.ct_promise.proofs.Promise.{batch_promise_kept, done_ends}
use Rattle.ct_promise.proofs.calls.run_batch.Goals as goal

pub returns : goal.returns
returns g c = λ done.
    batch_promise_kept c.args.words.now (g.S.Shelf.told c.args.shelf.now) (g.O.Sink.held c.args.out.now) (g.O.Sink.held c.run_batch.new.out)
    (done_ends (batch_plan_in c.args.words.now) (g.S.Shelf.told c.args.shelf.now) (g.O.Sink.held c.args.out.now) (g.O.Sink.held c.run_batch.new.out) c.run_batch.result done c.run_batch.ensures.written)
