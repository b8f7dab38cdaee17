use Rattle.std.proofs.Common.{◌∷◌, IsPermutation, sym, ap, subst, ◌∙◌}
use Rattle.std.proofs.lemmas.Result.{on_ok_weaker, on_err_weaker}
use Rattle.ct_jobs.specs.declared.one_grade.OneGrade.{OneGrade}
use Rattle.std.specs.Ordering.{nat_cmp}
use Rattle.std.specs.BTreeMap.{insert_entry}
use Rattle.ct_jobs.specs.PairsByGrade.{graded_pair, graded_entries}
use Rattle.ct_jobs.proofs.ByGradeFacts.{pair_written, entry_stays, pair_inserted}
use Rattle.ct_jobs.proofs.by_grade.ByGrade.add.Goals as goal

pub returns-in-Some-clause-more : goal.returns-in-Some-clause-more
returns-in-Some-clause-more c =
    let g = c.args.grade in
    let x = graded_pair g c.args.pair in
    let w = c.push_pair.new.pairs in
    let es = c.self.inside.map.entries in
    on_ok_weaker c.push_pair.result
    (λ h.
    subst (λ l. IsPermutation (x ∷ l) (graded_entries (c.get_mut.follows.lender w).entries)) c.self.view_is
    (subst (λ l. IsPermutation (x ∷ graded_entries es) (graded_entries l)) (sym (c.get_mut.follows.holds w).0)
    (pair_written g c.args.pair c.in-Some.pairs.now w es (sym c.in-Some.ensures.value) h)))
    c.push_pair.ensures.more

pub returns-in-Some-clause-refused : goal.returns-in-Some-clause-refused
returns-in-Some-clause-refused c =
    let g = c.args.grade in
    let w = c.push_pair.new.pairs in
    on_err_weaker c.push_pair.result
    (λ h.
    ap graded_entries (c.get_mut.follows.holds w).0 ∙ entry_stays g c.in-Some.pairs.now w c.self.inside.map.entries (sym c.in-Some.ensures.value) h ∙ c.self.view_is)
    c.push_pair.ensures.refused

pub returns-in-None-clause-more : goal.returns-in-None-clause-more
returns-in-None-clause-more c =
    let g = c.args.grade in
    let x = graded_pair g c.args.pair in
    let v : OneGrade = record { first = c.args.pair; rest = c.new.result } in
    let es = c.self.inside.map.entries in
    on_ok_weaker c.put_grade.result
    (λ h.
    subst (λ l. IsPermutation (x ∷ l) (graded_entries c.put_grade.new.map.entries)) c.self.view_is
    (subst (λ l. IsPermutation (x ∷ graded_entries es) (graded_entries l)) (sym (h ∙ ap (λ m. insert_entry nat_cmp m.entries g v) c.get_mut.follows.holds-at-none))
    (pair_inserted g c.args.pair v es (sym c.in-None.ensures.value) (ap (λ l. c.args.pair ∷ l) c.new.ensures.items))))
    c.put_grade.ensures.more
