use Rattle.std.proofs.Common.{◌≡◌, cond, Bool, true, false, Option, None, Some, refl, sym, subst, ap, ◌∙◌}
use Rattle.std.specs.Prelude.{option_map}
use Rattle.ct_run.specs.Words.{Work, Command, on, make, serve}
use Rattle.ct_run.specs.Commands.{seen}
use Rattle.ct_run.specs.Plan.{is_batch, batch_of, plain_of, plan_of}
use Rattle.ct_run.specs.Stopping.{Ran}
use Rattle.ct_run.proofs.plain.plain_ending.Goals as goal

-- a command of one thread is one whose threads never wait
plain_is_batch : (o : Option Command) → batch_of (plain_of o) ≡ plain_of o
plain_is_batch None = refl
plain_is_batch (Some (on instance work)) = by_flag (is_batch work)
  where
    by_flag : (b : Bool) → batch_of (cond b None (Some (on instance work))) ≡ cond b None (Some (on instance work))
    by_flag true = refl
    by_flag false = refl
plain_is_batch (Some (make number)) = refl
plain_is_batch (Some (serve instance sessions resume workers walks levels moves)) = refl

pub returns-clause-ran : goal.returns-clause-ran
returns-clause-ran g c =
    subst (λ (o : Option Command). Ran (plan_of o) (g.S.Shelf.told c.args.shelf.now) (g.S.Shelf.faults c.args.shelf.now) (g.S.Shelf.faults c.crew_ending.new.shelf) c.crew_ending.result)
    (ap batch_of c.in_one_thread.ensures.plain ∙ plain_is_batch (option_map seen c.args.command))
    c.crew_ending.ensures.ran
