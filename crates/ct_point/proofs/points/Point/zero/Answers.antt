use Rattle.std.proofs.Common.{◌≡◌, IfOk, take, replicate, subst}
use Rattle.std.proofs.lemmas.List.{take-replicate}
use Rattle.ct_vectors.specs.Vectors.{zeros}
use Rattle.ct_vectors.specs.declared.limits.TheConstants.{WIDTH_LIMIT}
use Rattle.ct_point.proofs.points.Point.zero.Goals as goal

pub returns : goal.returns
returns c =
    let same : take c.args.width (replicate WIDTH_LIMIT 0) ≡ zeros c.args.width = take-replicate c.args.width WIDTH_LIMIT 0 c.requires.limit in
    subst (λ l. IfOk c.from_slice.result (λ p. p ≡ l)) same c.from_slice.ensures
