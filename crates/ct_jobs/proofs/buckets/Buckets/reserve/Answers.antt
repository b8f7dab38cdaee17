use Rattle.std.proofs.Common.{◌++◌, IsPermutation, map, append_assoc, sym, ap, subst, ◌∙◌}
use Rattle.std.proofs.lemmas.List.Sorted.{IsPermutation-append_right}
use Rattle.ct_jobs.specs.Kept.{generator_of, pair_of}
use Rattle.ct_jobs.proofs.buckets.Buckets.reserve.Goals as goal

pub returns-clause-jobs : goal.returns-clause-jobs
returns-clause-jobs c =
    let gs = map generator_of c.self.inside.generators.items in
    let old = c.self.inside.merged ++ map pair_of c.self.inside.parked.items in
    let new = c.merge.new.merged ++ map pair_of c.merge.new.parked.items in
    let before = append_assoc gs c.self.inside.merged (map pair_of c.self.inside.parked.items) in
    let after = append_assoc gs c.merge.new.merged (map pair_of c.merge.new.parked.items) in
    subst (λ l. IsPermutation l ((gs ++ c.merge.new.merged) ++ map pair_of c.merge.new.parked.items)) (sym before ∙ ap (λ s. s.jobs) c.self.view_is)
    (subst (IsPermutation (gs ++ old)) (sym after) (IsPermutation-append_right gs old new c.merge.ensures.jobs))
