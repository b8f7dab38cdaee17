use Rattle.std.proofs.Common.{◌≡◌, max, length, get_or, arith, sym, ap, ◌∙◌}
use Rattle.ct_vectors.specs.Vectors.{lcm}
use Rattle.ct_vectors.proofs.Divisors.{length-lcm}
use Rattle.ct_point.proofs.Places
use Rattle.ct_point.proofs.InPlace.{get_or-written, IsWritten-more, IsWritten-all}
use Rattle.ct_point.proofs.slices.raise_to.Goals as goal

pub loop-i-preserved : goal.loop-i-preserved
loop-i-preserved c =
    let len : length (lcm c.args.p.now c.args.q.now) ≡ max (length c.args.p.now) (length c.args.q.now) = length-lcm c.args.p.now c.args.q.now in
    let here : get_or c.loop-i.p c.loop-i.i 0 ≡ get_or c.args.p.now c.loop-i.i 0 = get_or-written (lcm c.args.p.now c.args.q.now) c.args.p.now c.loop-i.p c.loop-i.i c.loop-i.invariant in
    let value : c.max.result ≡ get_or (lcm c.args.p.now c.args.q.now) c.loop-i.i 0 = c.max.ensures ∙ ap (λ z. max z (get_or c.args.q.now c.loop-i.i 0)) here ∙ sym (Places.get_or-lcm c.args.p.now c.args.q.now c.loop-i.i) in
    IsWritten-more (lcm c.args.p.now c.args.q.now) c.args.p.now c.loop-i.p c.loop-i.i (c.max.result) (omega arith) (omega arith) (omega arith) value c.loop-i.invariant

pub returns : goal.returns
returns c =
    let len : length (lcm c.args.p.now c.args.q.now) ≡ max (length c.args.p.now) (length c.args.q.now) = length-lcm c.args.p.now c.args.q.now in
    IsWritten-all (lcm c.args.p.now c.args.q.now) c.args.p.now c.loop-i.p c.loop-i.i (omega arith) (omega arith) c.loop-i.invariant
