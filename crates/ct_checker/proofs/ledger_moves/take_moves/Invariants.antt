use Rattle.std.proofs.Common.{◌≡◌, ◌+◌, map, take, drop}
use Rattle.std.specs.Arc.{arc_value}
use Rattle.ct_checker.specs.Refusals.{refused_move}
use Rattle.ct_checker.specs.Checking.{as_move}
use Rattle.ct_checker.proofs.ledger_moves.take_moves.Given as goal

abbrev pub invariant-loop-k : goal.invariant-loop-k
invariant-loop-k l = record {
  moves : l.moves ≡ record { instance = arc_value l.inst; moves = map as_move (take l.k l.pairs) };
  left : refused_move (arc_value l.inst) l.grade 4 (map as_move l.pairs) ≡ refused_move (arc_value l.inst) l.grade (4 + l.k) (map as_move (drop l.k l.pairs));
}
