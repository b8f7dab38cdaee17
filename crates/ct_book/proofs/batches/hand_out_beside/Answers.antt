use Rattle.std.proofs.Common.{List, sym, subst, arith}
use Rattle.ct_book.specs.declared.tasks.PlacedJob.{PlacedJob}
use Rattle.ct_book.proofs.BatchRuns.{HasHandedOut, handing_starts, handing_more, handed_waits, still_beyond}
use Rattle.ct_book.proofs.batches.hand_out_beside.Goals as goal

pub loop-jobs-init : goal.loop-jobs-init
loop-jobs-init c = record {
  handed = subst (λ (ps : List PlacedJob). HasHandedOut c.args.book.now ps c.args.book.now) (sym c.requires.none) (handing_starts c.args.book.now);
  room = omega arith;
  waits = c.requires.waits;
}

pub hand_out-requires-clause-grade : goal.hand_out-requires-clause-grade
hand_out-requires-clause-grade c =
    (c.requires.grade.0, c.requires.grade.1, still_beyond c.args.book.now c.loop-jobs.book c.requires.grade.0 (c.loop-jobs.invariant.handed).same c.requires.grade.2)

pub loop-jobs-preserved : goal.loop-jobs-preserved
loop-jobs-preserved c = record {
  handed = subst (λ (ps : List PlacedJob). HasHandedOut c.args.book.now ps c.hand_out.new.self) (sym c.push_reserved.ensures.items)
      (handing_more c.args.book.now c.loop-jobs.book c.hand_out.new.self c.loop-jobs.jobs.items c.hand_out.result c.loop-jobs.invariant.handed c.hand_out.ensures.task c.hand_out.ensures.steps);
  room = omega (arith, c.loop-jobs.invariant.room, c.push_reserved.ensures.capacity);
  waits = handed_waits c.loop-jobs.book c.hand_out.new.self (c.hand_out.result).job c.hand_out.ensures.steps;
}
