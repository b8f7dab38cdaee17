use Rattle.std.proofs.Common.{ℕ, ◌++◌, ◌∷◌, [], ap, ap₂, sym, ◌∙◌, arith}
use Rattle.ct_jobs.specs.Supports.{support}
use Rattle.ct_jobs.proofs.GradesBySupport.{supports_push}
use Rattle.ct_jobs.proofs.supports.Supports.of_new_moves.Goals as goal

pub loop-k-preserved : goal.loop-k-preserved
loop-k-preserved c =
    let i = c.args.inst.now in
    let ms = c.args.moves.now.moves in
    let k : ℕ = c.loop-k.k in
    let head = c.as_slice.ensures.coordinates ∙ c.head.ensures ∙ ap (λ m. m.head) c.get.ensures.at in
    c.in_ok-push.ensures ∙ ap₂ (λ l t. l ++ t ∷ []) c.loop-k.invariant (ap₂ support c.sums.ensures.sums head) ∙
    sym (supports_push i ms c.args.known k (omega arith))
