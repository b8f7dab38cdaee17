use Rattle.std.proofs.Common.{map}
use Rattle.ct_index.proofs.Lookups.{Trying}
use Rattle.ct_index.proofs.block.first_among.Given as goal

abbrev pub decreases-loop-left : goal.decreases-loop-left
decreases-loop-left g l = l.left

abbrev pub invariant-loop-left : goal.invariant-loop-left
invariant-loop-left g l = Trying (map g.T.HasHead.head_of l.items) l.p l.decided l.left
