use Rattle.ct_point.proofs.InPlace.{IsWritten}
use Rattle.ct_jobs.specs.Leaves.{left_of}
use Rattle.ct_jobs.proofs.heads.write_left.Given as goal

abbrev pub invariant-loop-c : goal.invariant-loop-c
invariant-loop-c l = IsWritten (left_of l.mv l.other) l.initial.left l.left l.c
