use Rattle.std.proofs.Common.{◌≡◌, ◌*◌, nat_lt, ℕ, List, map, length, All, Bor, rules, refl, sym, subst, ap, ◌∙◌}
use Rattle.std.specs.Arc.{arc_value}
use Rattle.std.proofs.lemmas.List.{length-map}
use Rattle.ct_instance.specs.Instance.{Problem}
use Rattle.ct_form.specs.EqualityForms.{equal_of}
use Rattle.ct_best_report.specs.BestReport.{rights_in, IsAsked}
use Rattle.ct_run.specs.declared.status.Status.TheVariants.{Done}
use Rattle.ct_run.specs.Plan.{case_of}
use Rattle.ct_run.proofs.Listed.{rights-count, listed_told, counted_too_many, counted_few}
use Rattle.ct_run.proofs.listing.best_ending.Goals as goal

pub best_report-requires-clause-asked : goal.best_report-requires-clause-asked
best_report-requires-clause-asked c =
    subst (λ (i : Problem). All (IsAsked i) (map (λ b. b.now) c.deref.result.now)) (sym (c.in_ok-shared.ensures ∙ c.equal.ensures))
    (subst (λ (bs : List (Bor (List ℕ))). All (IsAsked (equal_of c.args.form.now)) (map (λ b. b.now) bs)) (sym c.deref.ensures.value)
    (c.in_ok-rights.ensures.asked (equal_of c.args.form.now) c.in_ok-wide.ensures.script))

pub returns-then-is_too_many : goal.returns-then-is_too_many
returns-then-is_too_many c =
    let rights : List (Bor (List ℕ)) = c.in_ok-rights.rights.items in
    let many : length rights ≡ length (rights_in c.args.script) =
    sym (length-map rights (λ b. b.now)) ∙ ap (λ (bs : List (List ℕ)). length bs) c.in_ok-rights.ensures.rights ∙ rights-count c.args.form.now c.args.script c.in_ok-wide.wide c.in_ok-wide.ensures.wide in
    let counted : c.len-then-is_too_many.result ≡ length rights = search rules in
    counted_too_many (case_of c.args.options c.args.form.now) (length c.args.form.now.columns) c.args.count c.args.script
    c.len-then-is_too_many.result (counted ∙ many) c.is_too_many.result
    (c.is_too_many.ensures ∙ ap (λ (k : ℕ). nat_lt 10000 (k * c.args.count)) (c.len.ensures ∙ sym c.len-then-is_too_many.ensures)) c.if-is_too_many.true
    c.too_many_ending.result c.too_many_ending.ensures

pub returns : goal.returns
returns c =
    let rights : List (Bor (List ℕ)) = c.in_ok-rights.rights.items in
    let many : length rights ≡ length (rights_in c.args.script) =
    sym (length-map rights (λ b. b.now)) ∙ ap (λ (bs : List (List ℕ)). length bs) c.in_ok-rights.ensures.rights ∙ rights-count c.args.form.now c.args.script c.in_ok-wide.wide c.in_ok-wide.ensures.wide in
    let asked : map (λ b. b.now) c.deref.result.now ≡ rights_in c.in_ok-wide.wide =
    ap (λ (bs : List (Bor (List ℕ))). map (λ b. b.now) bs) c.deref.ensures.value ∙ c.in_ok-rights.ensures.rights in
    let counted : c.len.result ≡ length rights = search rules in
    counted_few (case_of c.args.options c.args.form.now) (length c.args.form.now.columns) c.args.count c.args.script
    c.len.result (counted ∙ many) c.is_too_many.result c.is_too_many.ensures c.if-is_too_many.false Done c.from_vec.result (
      refl,
      (
        c.in_ok-report.report.answers,
        (
          listed_told c.args.form.now c.args.options.limit c.args.options.walks c.args.options.levels c.args.count (arc_value c.in_ok-shared.shared) (c.in_ok-shared.ensures ∙ c.equal.ensures)
              c.columns.result c.columns.ensures.columns c.args.script c.in_ok-wide.wide c.in_ok-wide.ensures.wide (map (λ b. b.now) c.deref.result.now) asked
              c.in_ok-report.report.answers c.in_ok-report.ensures,
          c.from_vec.ensures ∙ c.in_ok-print.ensures,
        ),
      ),
    )
