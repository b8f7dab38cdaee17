use Rattle.std.proofs.Common.{arith}
use Rattle.std.proofs.lemmas.Bool.{leb-true, le-leb}
use Rattle.ct_vectors.specs.Vectors.{IsTimes}
use Rattle.ct_instance.specs.Jobs.{the_move}
use Rattle.ct_walk.proofs.MoveFacts.{fits_up_to}
use Rattle.ct_walk.proofs.walking.applies.Goals as goal

pub returns-then-times-ge1 : goal.returns-then-times-ge1
returns-then-times-ge1 c =
    let count : IsTimes (the_move c.args.moves.now.moves c.args.number).head c.args.p.now c.times_in.result = c.times_in.ensures in
    record {
      applies = (
        (λ t. record {
          number_some = omega arith;
          number_within = omega arith;
          some = omega arith;
          fits = fits_up_to (the_move c.args.moves.now.moves c.args.number).head c.args.p.now c.args.times c.times_in.result count (leb-true c.args.times c.times_in.result t);
        }),
        (λ a. le-leb c.args.times c.times_in.result (c.times_in.ensures.most c.args.times a.fits)),
      );
    }
