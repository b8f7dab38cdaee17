use Rattle.ct_run.specs.Plan.{batch_plan_in}
use Rattle.ct_run.proofs.Endings.{stopped_at_once}
use Rattle.ct_run.proofs.calls.batch_run_ending.Goals as goal

pub returns-in-Err-clause-ran : goal.returns-in-Err-clause-ran
returns-in-Err-clause-ran g c = stopped_at_once (batch_plan_in c.args.words.now) (g.S.Shelf.told c.args.shelf.now) (g.S.Shelf.faults c.args.shelf.now)
