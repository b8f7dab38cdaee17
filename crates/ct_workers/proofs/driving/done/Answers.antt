use Rattle.std.proofs.Common.{sym, subst, refl}
use Rattle.ct_workers.specs.Turns.{AreOf}
use Rattle.ct_workers.proofs.Steps.{no_step}
use Rattle.ct_workers.proofs.Kept.{others_of}
use Rattle.ct_workers.proofs.driving.done.Goals as goal

pub returns-in-Lose-clause-runs : goal.returns-in-Lose-clause-runs
returns-in-Lose-clause-runs c = no_step c.args.book.now c.args.book.now refl

pub returns-in-Lose-clause-place : goal.returns-in-Lose-clause-place
returns-in-Lose-clause-place c =
    subst (AreOf c.args.book.now.instance) (sym c.lose.ensures.rest) (others_of c.args.book.now.instance c.in-Lose.by c.args.kept.now c.requires.place)
