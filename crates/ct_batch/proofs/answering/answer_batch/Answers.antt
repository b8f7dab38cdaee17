use Rattle.std.proofs.Common.{ap, ◌∙◌}
use Rattle.std.specs.declared.alloc.AllocError.{AllocError}
use Rattle.rayon.proofs.ToStd.{slice-AllZip}
use Rattle.ct_version.specs.Answers.{IsAnswered}
use Rattle.ct_batch.proofs.Batches.{IfOk-matched, AllZip-oks, answered}
use Rattle.ct_batch.proofs.answering.answer_batch.Goals as goal

pub returns : goal.returns
returns g c =
    let h = c.in_ok-collect.ensures in
    let chain = rw c.map.ensures.f at h.1 in
    let slice = ap (λ it. it.slice.now) c.map.ensures.base ∙ c.par_iter.ensures in
    let R = IsAnswered c.args.version.now in
    IfOk-matched c.in_ok-collect.field-0 _ _ _ h.2 (λ v p.
    rw p.2 (AllZip-oks AllocError R c.args.rights.now h.0 p.0 p.1
    (slice-AllZip chain.0 c.args.rights.now (chain.1 ∙ slice) (answered AllocError R) h.0 chain.2)))
