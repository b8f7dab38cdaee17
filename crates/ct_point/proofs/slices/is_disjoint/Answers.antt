use Rattle.std.proofs.Common.{◌≡◌, ◌⊎◌, inl, inr, get_or, arith, ◌∙◌}
use Rattle.ct_point.proofs.Counts.{disjoint_more}
use Rattle.ct_point.proofs.slices.is_disjoint.Goals as goal
use Rattle.ct_point.proofs.slices.is_disjoint.Goals.{else-p-i-gt0-via-then-p-i-gt0+else-q-i-gt0, else-p-i-gt0-via-else-p-i-gt0}

pub loop-i-preserved : goal.loop-i-preserved
loop-i-preserved c =
    let zero : (get_or c.args.p.now c.loop-i.i 0 ≡ 0) ⊎ (get_or c.args.q.now c.loop-i.i 0 ≡ 0) =
    elim c.else-p-i-gt0.branch [ else-p-i-gt0-via-then-p-i-gt0+else-q-i-gt0 w ↦ inr (omega arith) | else-p-i-gt0-via-else-p-i-gt0 w ↦ inl (omega arith) ] in
    c.loop-i.invariant ∙ disjoint_more c.args.p.now c.args.q.now c.loop-i.i (omega arith) (omega arith) zero
