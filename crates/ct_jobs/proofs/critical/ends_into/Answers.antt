use Rattle.std.proofs.Common.{ap, sym, ◌∙◌}
use Rattle.ct_vectors.specs.Vectors.{add, subtract}
use Rattle.ct_vectors.proofs.Divisors.{lcm_comm}
use Rattle.ct_instance.specs.Jobs.{the_move, second_end_of}
use Rattle.ct_jobs.proofs.critical.ends_into.Goals as goal

pub returns-in-Pair-clause-second : goal.returns-in-Pair-clause-second
returns-in-Pair-clause-second c =
    let ms = c.args.moves.now.moves in
    let m = the_move ms c.in-Pair.i in
    let n = the_move ms c.in-Pair.k in
    c.left_into-in-Pair.ensures ∙ ap (λ l. add (subtract l n.head) n.tail) (lcm_comm n.head m.head) ∙
    ap (second_end_of c.args.inst.now ms) (sym c.in-Pair.is)
