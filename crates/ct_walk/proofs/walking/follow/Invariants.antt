use Rattle.std.proofs.Common.{take}
use Rattle.ct_walk.proofs.Loops.{Following}
use Rattle.ct_walk.proofs.walking.follow.Given as goal

abbrev pub invariant-loop-k : goal.invariant-loop-k
invariant-loop-k l = Following l.moves l.initial.p (take l.k l.steps) l.p
