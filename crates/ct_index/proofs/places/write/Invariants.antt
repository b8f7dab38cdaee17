use Rattle.std.proofs.Common.{ℕ, ◌≡◌, ◌<◌, get_or}
use Rattle.ct_index.specs.Table.{row_of}
use Rattle.ct_index.proofs.places.write.Given as goal

abbrev pub invariant-loop-q : goal.invariant-loop-q
invariant-loop-q l = (k : ℕ) → k < l.q → get_or l.rows k 0 ≡ row_of l.p k
