use Rattle.std.proofs.Common.{ap, ◌∙◌}
use Rattle.ct_instance.specs.Jobs.{the_move}
use Rattle.ct_jobs.proofs.PairGrades.{coprime_test}
use Rattle.ct_jobs.proofs.critical.have_coprime_heads.Goals as goal

pub returns : goal.returns
returns c =
    coprime_test c.disjoint.result _ _ (the_move c.args.moves.now.moves c.args.i).head (the_move c.args.moves.now.moves c.args.k).head c.disjoint.ensures
    (c.head.ensures ∙ ap (λ m. m.head) c.get.ensures.at) (c.head-2.ensures ∙ ap (λ m. m.head) c.get-2.ensures.at)
