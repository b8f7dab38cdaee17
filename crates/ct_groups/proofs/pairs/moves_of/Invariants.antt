use Rattle.std.proofs.Common.{◌≡◌, ◌≤◌, map, take, vec_capacity, length}
use Rattle.ct_groups.specs.Pairs.{pair_seen}
use Rattle.ct_groups.proofs.pairs.moves_of.Given as goal

abbrev pub invariant-loop-k : goal.invariant-loop-k
invariant-loop-k l = record {
  made : l.moves.items ≡ map pair_seen (take l.k l.pairs);
  room : length l.pairs ≤ vec_capacity l.moves;
}
