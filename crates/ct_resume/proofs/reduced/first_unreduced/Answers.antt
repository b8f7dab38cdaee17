use Rattle.std.proofs.Common.{◌+◌, ◌≤◌, true≢false, sym, ◌∙◌, arith}
use Rattle.ct_resume.proofs.Tests.{reduced_has_none, first_unreduced_is_found}
use Rattle.ct_resume.proofs.reduced.first_unreduced.Goals as goal

pub returns-then-not-is_reduced_at : goal.returns-then-not-is_reduced_at
returns-then-not-is_reduced_at c =
    sym ((first_unreduced_is_found c.args.moves.now.instance c.args.moves.now.moves (c.loop-index.index + 1)).1
    (record {
      some = omega arith;
      within = omega (arith, c.loop-index-test.true, c.len-index-end.ensures.count);
      unreduced = λ r. true≢false (sym (c.is_reduced_at.ensures.1 r) ∙ c.if-not-is_reduced_at.true);
      before = λ j some l. c.loop-index.invariant j some (let low : j ≤ c.loop-index.index = omega (arith, l) in low);
    }))

pub returns : goal.returns
returns c =
    sym ((reduced_has_none c.args.moves.now.instance c.args.moves.now.moves).1
    (λ k some most. c.loop-index.invariant k some (let low : k ≤ c.loop-index.index = omega (arith, most, c.loop-index-test.false, c.len-index-end.ensures.count) in low)))
