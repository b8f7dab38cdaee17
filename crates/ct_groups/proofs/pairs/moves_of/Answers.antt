use Rattle.ct_groups.proofs.NewMoves.{small_pair_at}
use Rattle.ct_groups.proofs.pairs.moves_of.Goals as goal

pub move_of-requires : goal.move_of-requires
move_of-requires c = small_pair_at c.args.inst.now c.args.pairs.now c.loop-k.k _ c.requires c.loop-k-test.true
