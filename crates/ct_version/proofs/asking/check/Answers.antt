use Rattle.std.proofs.Common.{◌≤◌, sym, subst, arith}
use Rattle.ct_vectors.specs.declared.limits.TheConstants.{GRADE_LIMIT}
use Rattle.ct_vectors.specs.Vectors.{total}
use Rattle.ct_instance.specs.Versions.{Level, Covers}
use Rattle.ct_instance.proofs.Points.{right-total}
use Rattle.ct_version.proofs.asking.check.Goals as goal

pub sum-requires : goal.sum-requires
sum-requires c =
    let most : total c.args.b.now ≤ GRADE_LIMIT = right-total c.args.version.now.instance c.number-number.ensures.version.instance c.args.b.now c.requires.right c.requires.limit in
    omega arith

pub returns-then-sum-finished : goal.returns-then-sum-finished
returns-then-sum-finished c =
    let within : total c.args.b.now ≤ c.in-Upto.finished = omega (arith, c.sum.ensures, c.if-sum-finished.true) in
    subst (λ (l : Level). Covers l (total c.args.b.now)) c.in-Upto.ensures within

pub returns-else-sum-finished : goal.returns-else-sum-finished
returns-else-sum-finished c = record {
  level = sym c.in-Upto.ensures;
  below = omega (arith, c.sum.ensures, c.if-sum-finished.false);
}
