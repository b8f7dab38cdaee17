use Rattle.std.proofs.Common.{ℕ, ◌≡◌, ◌<◌, true, false, [], length, map, get_or, sym, ◌∙◌, ap, arith}
use Rattle.std.specs.Int.{bit_at, w128, trailing_zeros}
use Rattle.std.proofs.lemmas.Nat.Bits.{bit_at-zero, shr_and_one}
use Rattle.std.proofs.lemmas.List.{length-map}
use Rattle.ct_vectors.specs.Vectors.{divides}
use Rattle.ct_index.proofs.BitFacts.{IsLowest, lowest, cleared_smaller}
use Rattle.ct_index.proofs.Lookups.{position-map, at_item, trying_more, trying_found, trying_none}
use Rattle.ct_index.proofs.block.first_among.Goals as goal
use Rattle.ct_index.proofs.block.first_among.Goals.{then-decided-j-eq1-via-then-decided-j-eq1, then-decided-j-eq1-via-else-decided-j-eq1+then-divides}

pub returns-then-j-items : goal.returns-then-j-items
returns-then-j-items g c =
    let low : IsLowest c.loop-left.left (trailing_zeros w128 c.loop-left.left) = lowest c.loop-left.left (omega arith) (omega arith) in
    let count : length (map g.T.HasHead.head_of c.args.items.now) ≡ length c.args.items.now = length-map c.args.items.now g.T.HasHead.head_of in
    sym (position-map g.T.HasHead.head_of (λ h. divides h c.args.p.now) c.args.items.now ∙
    trying_none (map g.T.HasHead.head_of c.args.items.now) c.args.p.now c.args.decided c.loop-left.left (λ i l. low.none i (omega arith)) c.loop-left.invariant)

pub returns-then-decided-j-eq1 : goal.returns-then-decided-j-eq1
returns-then-decided-j-eq1 g c =
    let j : ℕ = trailing_zeros w128 c.loop-left.left in
    let low : IsLowest c.loop-left.left (trailing_zeros w128 c.loop-left.left) = lowest c.loop-left.left (omega arith) (omega arith) in
    let count : length (map g.T.HasHead.head_of c.args.items.now) ≡ length c.args.items.now = length-map c.args.items.now g.T.HasHead.head_of in
    let within : trailing_zeros w128 c.loop-left.left < length (map g.T.HasHead.head_of c.args.items.now) = omega arith in
    let there : divides (get_or (map g.T.HasHead.head_of c.args.items.now) (trailing_zeros w128 c.loop-left.left) []) c.args.p.now ≡ true =
    elim c.then-decided-j-eq1.branch [
      | then-decided-j-eq1-via-then-decided-j-eq1 w ↦ c.loop-left.invariant.decides (trailing_zeros w128 c.loop-left.left) within low.set (sym (shr_and_one c.args.decided (trailing_zeros w128 c.loop-left.left)) ∙ w.if-decided-j-eq1.true)
      | then-decided-j-eq1-via-else-decided-j-eq1+then-divides w ↦
          at_item g.T.HasHead.head_of c.args.items.now (trailing_zeros w128 c.loop-left.left) w.index-items-j.result c.args.p.now true (omega arith) w.index-items-j.is
          (ap (λ h. divides h c.args.p.now) (sym w.head.ensures) ∙ sym w.divides.ensures ∙ w.if-divides.true)
    ] in
    sym (position-map g.T.HasHead.head_of (λ h. divides h c.args.p.now) c.args.items.now ∙
    trying_found (map g.T.HasHead.head_of c.args.items.now) c.args.p.now c.args.decided c.loop-left.left (trailing_zeros w128 c.loop-left.left) low.none within there c.loop-left.invariant)

pub loop-left-smaller : goal.loop-left-smaller
loop-left-smaller g c = cleared_smaller c.loop-left.left (omega arith)

pub loop-left-preserved : goal.loop-left-preserved
loop-left-preserved g c =
    let low : IsLowest c.loop-left.left (trailing_zeros w128 c.loop-left.left) = lowest c.loop-left.left (omega arith) (omega arith) in
    trying_more (map g.T.HasHead.head_of c.args.items.now) c.args.p.now c.args.decided c.loop-left.left (trailing_zeros w128 c.loop-left.left) low
    (at_item g.T.HasHead.head_of c.args.items.now (trailing_zeros w128 c.loop-left.left) c.index-items-j.result c.args.p.now false (omega arith) c.index-items-j.is
    (ap (λ h. divides h c.args.p.now) (sym c.head.ensures) ∙ sym c.divides.ensures ∙ c.if-divides.false)) c.loop-left.invariant

pub returns : goal.returns
returns g c =
    let left : c.loop-left.left ≡ 0 = omega arith in
    sym (position-map g.T.HasHead.head_of (λ h. divides h c.args.p.now) c.args.items.now ∙
    trying_none (map g.T.HasHead.head_of c.args.items.now) c.args.p.now c.args.decided c.loop-left.left (λ i l. ap (λ n. bit_at n i) left ∙ bit_at-zero i) c.loop-left.invariant)
