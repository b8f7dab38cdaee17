use Rattle.ct_groups.specs.Groups.{points_seen}
use Rattle.ct_groups.specs.Pairs.{HasPairs}
use Rattle.ct_groups.proofs.pairs.pairs_to_least.Given as goal

abbrev pub invariant-loop-k : goal.invariant-loop-k
invariant-loop-k l = HasPairs l.inst (points_seen l.points) l.k l.pairs.items
