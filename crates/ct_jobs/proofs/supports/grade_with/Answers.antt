use Rattle.std.proofs.Common.{◌≡◌, ◌*◌, ◌-◌, get_or, ap, arith}
use Rattle.std.proofs.lemmas.List.Sums.{sum_by_more_le}
use Rattle.ct_jobs.specs.declared.supports.Part.{Part}
use Rattle.ct_jobs.specs.Supports.{excess_over}
use Rattle.ct_jobs.proofs.supports.grade_with.Goals as goal

pub overflow_add-grade : goal.overflow_add-grade
overflow_add-grade c =
    let none : Part = record { place = 0; value = 0; weight = 0 } in
    let t : Part = get_or c.args.parts.now c.loop-part.part-index none in
    let more : c.saturating_sub.result ≡ t.value - get_or c.args.p.now t.place 0 = omega arith in
    omega (arith, ap (λ x. t.weight * x) more, sum_by_more_le (excess_over c.args.p.now) c.args.parts.now c.loop-part.part-index none (omega arith))
