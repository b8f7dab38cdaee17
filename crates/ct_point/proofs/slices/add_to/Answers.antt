use Rattle.std.proofs.Common.{◌≡◌, ◌+◌, ◌<◌, ◌^◌, max, length, get_or, arith, sym, ap, ◌∙◌}
use Rattle.ct_vectors.specs.Vectors.{add}
use Rattle.ct_vectors.proofs.Sums.{length-add}
use Rattle.ct_point.proofs.Places
use Rattle.ct_point.proofs.InPlace.{get_or-written, IsWritten-more, IsWritten-all}
use Rattle.ct_point.proofs.slices.add_to.Goals as goal

pub overflow_add-p : goal.overflow_add-p
overflow_add-p c =
    let len : length (add c.args.p.now c.args.q.now) ≡ max (length c.args.p.now) (length c.args.q.now) = length-add c.args.p.now c.args.q.now in
    let here : get_or c.loop-i.p c.loop-i.i 0 ≡ get_or c.args.p.now c.loop-i.i 0 = get_or-written (add c.args.p.now c.args.q.now) c.args.p.now c.loop-i.p c.loop-i.i c.loop-i.invariant in
    let sum : get_or (add c.args.p.now c.args.q.now) c.loop-i.i 0 ≡ get_or c.args.p.now c.loop-i.i 0 + get_or c.args.q.now c.loop-i.i 0 = Places.get_or-add c.args.p.now c.args.q.now c.loop-i.i in
    let below : c.loop-i.i < length (add c.args.p.now c.args.q.now) = omega arith in
    let fits : get_or (add c.args.p.now c.args.q.now) c.loop-i.i 0 < 2 ^ 64 = c.requires.fits c.loop-i.i 0 below in
    omega arith

pub loop-i-preserved : goal.loop-i-preserved
loop-i-preserved c =
    let len : length (add c.args.p.now c.args.q.now) ≡ max (length c.args.p.now) (length c.args.q.now) = length-add c.args.p.now c.args.q.now in
    let here : get_or c.loop-i.p c.loop-i.i 0 ≡ get_or c.args.p.now c.loop-i.i 0 = get_or-written (add c.args.p.now c.args.q.now) c.args.p.now c.loop-i.p c.loop-i.i c.loop-i.invariant in
    let value : get_or c.loop-i.p c.loop-i.i 0 + get_or c.args.q.now c.loop-i.i 0 ≡ get_or (add c.args.p.now c.args.q.now) c.loop-i.i 0 = ap (λ z. z + get_or c.args.q.now c.loop-i.i 0) here ∙ sym (Places.get_or-add c.args.p.now c.args.q.now c.loop-i.i) in
    IsWritten-more (add c.args.p.now c.args.q.now) c.args.p.now c.loop-i.p c.loop-i.i (get_or c.loop-i.p c.loop-i.i 0 + get_or c.args.q.now c.loop-i.i 0) (omega arith) (omega arith) (omega arith) value c.loop-i.invariant

pub returns : goal.returns
returns c =
    let len : length (add c.args.p.now c.args.q.now) ≡ max (length c.args.p.now) (length c.args.q.now) = length-add c.args.p.now c.args.q.now in
    IsWritten-all (add c.args.p.now c.args.q.now) c.args.p.now c.loop-i.p c.loop-i.i (omega arith) (omega arith) c.loop-i.invariant
