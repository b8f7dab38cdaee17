use Rattle.std.proofs.Common.{ℕ, ◌≡◌, ◌-◌, ◌<◌, ◌≤◌, inl, inr, List, length, get_or, sym, subst, arith, bit_and}
use Rattle.std.specs.Int.{w128, trailing_zeros}
use Rattle.ct_index.proofs.BitFacts.{IsLowest, lowest, cleared_smaller}
use Rattle.std.proofs.lemmas.List.{get_or_past}
use Rattle.std.proofs.lemmas.Bool.{cases_lt}
use Rattle.ct_index.specs.Table.{IsSupport}
use Rattle.ct_index.proofs.Counting.{Counting, counting_start, counting_more, counting_all}
use Rattle.ct_index.proofs.support.times_over.Goals as goal

pub loop-left-init : goal.loop-left-init
loop-left-init c = counting_start c.args.head.now c.args.p.now c.args.support

-- the lowest coordinate that is left is one of the head's
record Here (head p : List ℕ) (j : ℕ) : Type 0 where
  positive : 1 ≤ get_or head j 0
  in_head : j < length head
  in_p : j < length p

here : (head p : List ℕ) (support left times j : ℕ) → length head ≡ length p → IsSupport head support → Counting head p support left times → IsLowest left j → Here head p j
here head p support left times j width s c low =
    let positive : 0 < get_or head j 0 = (s j).0 (c.of_support j low.set) in
    let inside : j < length head = elim (cases_lt j (length head)) [ inl l ↦ l | inr l ↦ absurd (omega (arith, positive, get_or_past head j 0 l)) ] in
    record { positive = omega arith; in_head = inside; in_p = omega arith }

pub bounds-p-i : goal.bounds-p-i
bounds-p-i c =
    let low : IsLowest c.loop-left.left (trailing_zeros w128 c.loop-left.left) = lowest c.loop-left.left (omega arith) (omega arith) in
    (here c.args.head.now c.args.p.now c.args.support c.loop-left.left c.loop-left.times (trailing_zeros w128 c.loop-left.left) c.requires.width c.requires.support c.loop-left.invariant low).in_p

pub bounds-head-i : goal.bounds-head-i
bounds-head-i c =
    let low : IsLowest c.loop-left.left (trailing_zeros w128 c.loop-left.left) = lowest c.loop-left.left (omega arith) (omega arith) in
    (here c.args.head.now c.args.p.now c.args.support c.loop-left.left c.loop-left.times (trailing_zeros w128 c.loop-left.left) c.requires.width c.requires.support c.loop-left.invariant low).in_head

pub quotient-requires : goal.quotient-requires
quotient-requires c =
    let low : IsLowest c.loop-left.left (trailing_zeros w128 c.loop-left.left) = lowest c.loop-left.left (omega arith) (omega arith) in
    (here c.args.head.now c.args.p.now c.args.support c.loop-left.left c.loop-left.times (trailing_zeros w128 c.loop-left.left) c.requires.width c.requires.support c.loop-left.invariant low).positive

pub loop-left-smaller : goal.loop-left-smaller
loop-left-smaller c = cleared_smaller c.loop-left.left (omega arith)

pub loop-left-preserved : goal.loop-left-preserved
loop-left-preserved c =
    let low : IsLowest c.loop-left.left (trailing_zeros w128 c.loop-left.left) = lowest c.loop-left.left (omega arith) (omega arith) in
    subst (Counting c.args.head.now c.args.p.now c.args.support (bit_and c.loop-left.left (c.loop-left.left - 1))) (sym c.min-times.ensures)
    (counting_more c.args.head.now c.args.p.now c.args.support c.loop-left.left c.loop-left.times (trailing_zeros w128 c.loop-left.left) c.quotient.result low c.requires.support c.quotient.ensures c.loop-left.invariant)

pub returns : goal.returns
returns c = counting_all c.args.head.now c.args.p.now c.args.support c.loop-left.left c.loop-left.times (omega arith) (λ i. omega (arith, c.type_inv.p i)) c.requires.support c.requires.positive c.loop-left.invariant
