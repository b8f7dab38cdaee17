use Rattle.std.proofs.Common.{◌≡◌, length}
use Rattle.std.specs.Arc.{arc_value}
use Rattle.ct_jobs_bench.proofs.synthetic.moves_of.Given as goal

abbrev pub invariant-loop-k : goal.invariant-loop-k
invariant-loop-k l = record { instance : l.moves.instance ≡ arc_value l.inst; count : length l.moves.moves ≡ l.k }
