use Rattle.std.proofs.Common.{sym, subst}
use Rattle.ct_instance.specs.TestSet.{Binomial}
use Rattle.ct_instance.specs.Jobs.{the_move}
use Rattle.ct_jobs.specs.Leaves.{Leaves}
use Rattle.ct_jobs.proofs.PairGrades.{leaves}
use Rattle.ct_jobs.proofs.critical.left_into.Goals as goal

pub write_left-requires : goal.write_left-requires
write_left-requires c =
    let l = c.args.moves.now in
    let p = c.args.p.now in
    subst (λ (m : Binomial). Leaves p m c.get-2.result.now) (sym c.get.ensures.at)
    (subst (λ (n : Binomial). Leaves p (the_move l.moves c.args.i) n) (sym c.get-2.ensures.at)
    (leaves l c.instance-instance.ensures.checked c.args.i c.args.k c.requires.some_i c.requires.within_i c.requires.some_k c.requires.within_k p c.requires.point))
