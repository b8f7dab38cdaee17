use Rattle.ct_run.specs.Plan.{plan_in}
use Rattle.ct_promise.proofs.Promise.{promise_kept, done_ends}
use Rattle.ct_promise.proofs.calls.run.Goals as goal

pub returns : goal.returns
returns g c = λ done.
    promise_kept c.args.words.now (g.S.Shelf.told c.args.shelf.now) (g.O.Sink.held c.args.out.now) (g.O.Sink.held c.run.new.out)
    (done_ends (plan_in c.args.words.now) (g.S.Shelf.told c.args.shelf.now) (g.O.Sink.held c.args.out.now) (g.O.Sink.held c.run.new.out) c.run.result done c.run.ensures.written)
