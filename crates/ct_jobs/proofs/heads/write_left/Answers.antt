use Rattle.std.proofs.Common.{ℕ, ◌≡◌, ◌+◌, ◌-◌, ◌<◌, ◌^◌, length, get_or, ap, ◌∙◌, arith}
use Rattle.ct_point.proofs.InPlace.{IsWritten-more, IsWritten-all}
use Rattle.ct_jobs.specs.Leaves.{left_of}
use Rattle.ct_jobs.proofs.TwoHeads.{length-left_of, get_or-left_of, length-written}
use Rattle.ct_jobs.proofs.heads.write_left.Goals as goal

pub overflow_add-saturating_sub : goal.overflow_add-saturating_sub
overflow_add-saturating_sub c =
    let m = c.args.mv.now in
    let n = c.args.other.now in
    let k : ℕ = c.loop-c.c in
    let head : get_or c.as_slice-head.result.now k 0 ≡ get_or m.head k 0 = ap (λ l. get_or l k 0) (c.as_slice-head.ensures.coordinates ∙ c.head.ensures) in
    let tail : get_or c.as_slice-tail.result.now k 0 ≡ get_or m.tail k 0 = ap (λ l. get_or l k 0) (c.as_slice-tail.ensures.coordinates ∙ c.tail.ensures) in
    let other : get_or c.as_slice-beside.result.now k 0 ≡ get_or n.head k 0 = ap (λ l. get_or l k 0) (c.as_slice-beside.ensures.coordinates ∙ c.head-2.ensures) in
    let in-head : length c.as_slice-head.result.now ≡ length m.head = ap length (c.as_slice-head.ensures.coordinates ∙ c.head.ensures) in
    let wide : length (left_of m n) ≡ length m.head = length-left_of m n c.requires.other_width c.requires.tail_width in
    let value : get_or (left_of m n) k 0 ≡ get_or n.head k 0 - get_or m.head k 0 + get_or m.tail k 0 = get_or-left_of m n c.requires.other_width k in
    let fits : get_or (left_of m n) k 0 < 2 ^ 64 = c.requires.fits k 0 (omega arith) in
    omega arith

pub set-requires : goal.set-requires
set-requires c =
    let in-head : length c.as_slice-head.result.now ≡ length c.args.mv.now.head = ap length (c.as_slice-head.ensures.coordinates ∙ c.head.ensures) in
    let wide : length (left_of c.args.mv.now c.args.other.now) ≡ length c.args.mv.now.head = length-left_of c.args.mv.now c.args.other.now c.requires.other_width c.requires.tail_width in
    let same : length c.loop-c.left ≡ length c.args.left.now = length-written (left_of c.args.mv.now c.args.other.now) c.args.left.now c.loop-c.left c.loop-c.c (omega arith) (omega arith) c.loop-c.invariant in
    omega arith

pub loop-c-preserved : goal.loop-c-preserved
loop-c-preserved c =
    let m = c.args.mv.now in
    let n = c.args.other.now in
    let k : ℕ = c.loop-c.c in
    let head : get_or c.as_slice-head.result.now k 0 ≡ get_or m.head k 0 = ap (λ l. get_or l k 0) (c.as_slice-head.ensures.coordinates ∙ c.head.ensures) in
    let tail : get_or c.as_slice-tail.result.now k 0 ≡ get_or m.tail k 0 = ap (λ l. get_or l k 0) (c.as_slice-tail.ensures.coordinates ∙ c.tail.ensures) in
    let other : get_or c.as_slice-beside.result.now k 0 ≡ get_or n.head k 0 = ap (λ l. get_or l k 0) (c.as_slice-beside.ensures.coordinates ∙ c.head-2.ensures) in
    let in-head : length c.as_slice-head.result.now ≡ length m.head = ap length (c.as_slice-head.ensures.coordinates ∙ c.head.ensures) in
    let wide : length (left_of m n) ≡ length m.head = length-left_of m n c.requires.other_width c.requires.tail_width in
    let value : get_or (left_of m n) k 0 ≡ get_or n.head k 0 - get_or m.head k 0 + get_or m.tail k 0 = get_or-left_of m n c.requires.other_width k in
    let same : length c.loop-c.left ≡ length c.args.left.now = length-written (left_of m n) c.args.left.now c.loop-c.left k (omega arith) (omega arith) c.loop-c.invariant in
    let v : ℕ = c.saturating_sub.result + get_or c.as_slice-tail.result.now k 0 in
    rw c.set.ensures (IsWritten-more (left_of m n) c.args.left.now c.loop-c.left k v (omega arith) (omega arith) (omega arith) (omega arith) c.loop-c.invariant)

pub returns : goal.returns
returns c =
    let in-head : length c.as_slice-head.result.now ≡ length c.args.mv.now.head = ap length (c.as_slice-head.ensures.coordinates ∙ c.head.ensures) in
    let wide : length (left_of c.args.mv.now c.args.other.now) ≡ length c.args.mv.now.head = length-left_of c.args.mv.now c.args.other.now c.requires.other_width c.requires.tail_width in
    let same : length c.loop-c.left ≡ length c.args.left.now = length-written (left_of c.args.mv.now c.args.other.now) c.args.left.now c.loop-c.left c.loop-c.c (omega arith) (omega arith) c.loop-c.invariant in
    IsWritten-all (left_of c.args.mv.now c.args.other.now) c.args.left.now c.loop-c.left c.loop-c.c (omega arith) (omega arith) c.loop-c.invariant
