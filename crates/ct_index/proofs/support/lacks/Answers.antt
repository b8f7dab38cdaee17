use Rattle.std.proofs.Common.{arith}
use Rattle.std.specs.Int.{w128, trailing_zeros}
use Rattle.std.proofs.lemmas.List.{get_or_past}
use Rattle.ct_index.proofs.BitFacts.{IsLowest, lowest, cleared_smaller, cleared_set}
use Rattle.ct_index.proofs.support.lacks.Goals as goal
use Rattle.ct_index.proofs.support.lacks.Goals.{then-i-p-via-then-i-p, then-i-p-via-else-i-p+then-p-i-eq0}

pub returns-then-i-p : goal.returns-then-i-p
returns-then-i-p c =
    let low : IsLowest c.loop-left.left (trailing_zeros w128 c.loop-left.left) = lowest c.loop-left.left (omega arith) (omega arith) in
    λ t. (
      trailing_zeros w128 c.loop-left.left,
      c.loop-left.invariant (trailing_zeros w128 c.loop-left.left) low.set,
      elim c.then-i-p.branch [
        | then-i-p-via-then-i-p w ↦ get_or_past c.args.p.now (trailing_zeros w128 c.loop-left.left) 0 (omega arith)
        | then-i-p-via-else-i-p+then-p-i-eq0 w ↦ omega arith
      ],
    )

pub loop-left-smaller : goal.loop-left-smaller
loop-left-smaller c = cleared_smaller c.loop-left.left (omega arith)

pub loop-left-preserved : goal.loop-left-preserved
loop-left-preserved c = λ i b. c.loop-left.invariant i (cleared_set c.loop-left.left i b)
