use Rattle.std.proofs.Common.{◌≡◌, ◌-◌, ◌≤◌, length, get_or, arith, sym, ap, ◌∙◌}
use Rattle.ct_vectors.specs.Vectors.{subtract}
use Rattle.ct_vectors.proofs.Sums.{length-subtract}
use Rattle.ct_vectors.proofs.Divisors.{Divides-at}
use Rattle.ct_point.proofs.Places
use Rattle.ct_point.proofs.InPlace.{get_or-written, IsWritten-more, IsWritten-all}
use Rattle.ct_point.proofs.slices.subtract_from.Goals as goal

pub overflow_sub-p : goal.overflow_sub-p
overflow_sub-p c =
    let here : get_or c.loop-i.p c.loop-i.i 0 ≡ get_or c.args.p.now c.loop-i.i 0 = get_or-written (subtract c.args.p.now c.args.q.now) c.args.p.now c.loop-i.p c.loop-i.i c.loop-i.invariant in
    let at_most : get_or c.args.q.now c.loop-i.i 0 ≤ get_or c.args.p.now c.loop-i.i 0 = Divides-at c.args.q.now c.args.p.now c.requires.at_most c.loop-i.i in
    omega arith

pub loop-i-preserved : goal.loop-i-preserved
loop-i-preserved c =
    let len : length (subtract c.args.p.now c.args.q.now) ≡ length c.args.p.now = length-subtract c.args.p.now c.args.q.now in
    let here : get_or c.loop-i.p c.loop-i.i 0 ≡ get_or c.args.p.now c.loop-i.i 0 = get_or-written (subtract c.args.p.now c.args.q.now) c.args.p.now c.loop-i.p c.loop-i.i c.loop-i.invariant in
    let value : get_or c.loop-i.p c.loop-i.i 0 - get_or c.args.q.now c.loop-i.i 0 ≡ get_or (subtract c.args.p.now c.args.q.now) c.loop-i.i 0 = ap (λ z. z - get_or c.args.q.now c.loop-i.i 0) here ∙ sym (Places.get_or-subtract c.args.p.now c.args.q.now c.loop-i.i) in
    IsWritten-more (subtract c.args.p.now c.args.q.now) c.args.p.now c.loop-i.p c.loop-i.i (get_or c.loop-i.p c.loop-i.i 0 - get_or c.args.q.now c.loop-i.i 0) (omega arith) (omega arith) (omega arith) value c.loop-i.invariant

pub returns : goal.returns
returns c =
    let len : length (subtract c.args.p.now c.args.q.now) ≡ length c.args.p.now = length-subtract c.args.p.now c.args.q.now in
    IsWritten-all (subtract c.args.p.now c.args.q.now) c.args.p.now c.loop-i.p c.loop-i.i (omega arith) (omega arith) c.loop-i.invariant
