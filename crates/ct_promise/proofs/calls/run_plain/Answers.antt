use Rattle.ct_run.specs.Plan.{plain_plan_in}
use Rattle.ct_promise.proofs.Promise.{plain_promise_kept, done_ends}
use Rattle.ct_promise.proofs.calls.run_plain.Goals as goal

pub returns : goal.returns
returns g c = λ done.
    plain_promise_kept c.args.words.now (g.S.Shelf.told c.args.shelf.now) (g.O.Sink.held c.args.out.now) (g.O.Sink.held c.run_plain.new.out)
    (done_ends (plain_plan_in c.args.words.now) (g.S.Shelf.told c.args.shelf.now) (g.O.Sink.held c.args.out.now) (g.O.Sink.held c.run_plain.new.out) c.run_plain.result done c.run_plain.ensures.written)
