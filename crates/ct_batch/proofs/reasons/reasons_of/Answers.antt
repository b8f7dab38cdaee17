use Rattle.std.proofs.Common.{◌≡◌, ◌<◌, ◌-◌, ◌∙◌, length, map, min, ap, arith}
use Rattle.std.specs.List.{range_with_len}
use Rattle.std.specs.declared.alloc.AllocError.{AllocError}
use Rattle.std.proofs.lemmas.Slice.Zip.{AllZip-map}
use Rattle.rayon.specs.Numbers.{nat_range}
use Rattle.rayon.proofs.ToStd.{nat_range-All}
use Rattle.ct_batch.specs.Reasons.{reason_at}
use Rattle.ct_batch.proofs.Batches.{IfOk-matched, AllZip-oks}
use Rattle.ct_batch.proofs.reasons.reasons_of.Goals as goal

pub collect-requires-clause-ready : goal.collect-requires-clause-ready
collect-requires-clause-ready g c κs _ =
    let ends = c.into_par_iter.ensures in
    let inside = nat_range-All (λ i. (i < length c.args.docket.now.jobs) × (i < length c.args.entries.now)) 0 c.min-count.result
    (λ i low high. (omega (arith, c.min-count.ensures, c.len.ensures), omega (arith, c.min-count.ensures, c.len.ensures))) in
    rw (c.map.ensures.base, c.map.ensures.f, ends.0, ends.1) (λ k d lt. (inside k d lt, λ y p. tt))

pub returns : goal.returns
returns g c =
    let h = c.in_ok-collect.ensures in
    let ends = c.into_par_iter.ensures in
    let chain = rw (c.map.ensures.base, c.map.ensures.f) at h.1 in
    let n = min (length c.args.docket.now.jobs) (length c.args.entries.now) in
    let whole : c.min-count.result - 0 ≡ n = omega (arith, c.min-count.ensures, c.len.ensures) in
    let places = chain.1 ∙ (λ i. nat_range (ends.0 i) (ends.1 i)) ∙ ap (range_with_len 0) whole in
    let reason = reason_at c.args.docket.now c.args.entries.now in
    IfOk-matched c.in_ok-collect.field-0 _ _ _ h.2 (λ v p.
    p.2 ∙ AllZip-map reason chain.0 p.0 (AllZip-oks AllocError (λ k r. r ≡ reason k) chain.0 h.0 p.0 p.1 chain.2) ∙ ap (map reason) places)
