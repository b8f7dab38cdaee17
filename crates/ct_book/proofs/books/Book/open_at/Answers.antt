use Rattle.std.proofs.Common.{◌≡◌, sym, ap, subst, ◌∙◌, arith, ℕ}
use Rattle.std.specs.Arc.{arc_value}
use Rattle.ct_instance.specs.Instance.{Problem, IsInstance}
use Rattle.ct_instance.specs.Versions.{version_list, IsVersion}
use Rattle.ct_instance.specs.Reach.{first_version_from}
use Rattle.ct_jobs.specs.GradedJobs.{AreJobsOf}
use Rattle.ct_version.specs.Editions.{Edition, IsEdition}
use Rattle.ct_book.specs.Bringing.{IsBrought}
use Rattle.ct_book.proofs.OpenedBooks.{there_is, number_most, list_is, at_book, at_seen}
use Rattle.ct_book.proofs.books.Book.open_at.Goals as goal
use Rattle.ct_book.proofs.books.Book.open_at.Goals.{In_ok-number, After-number-number}

instance_of : (c : In_ok-number) → IsInstance (arc_value c.args.inst)
instance_of c = subst IsInstance c.deref.ensures c.rows-rows.ensures.instance

first_of : (c : In_ok-number) → c.in_ok-number.field-0.number ≡ first_version_from (arc_value c.args.inst) c.args.grade
first_of c = c.in_ok-number.ensures.first ∙ ap (λ (i : Problem). first_version_from i c.args.grade) c.deref-3.ensures

pub new-requires-clause-version : goal.new-requires-clause-version
new-requires-clause-version c =
    subst (λ (i : Problem). IsVersion i c.in_ok-number.field-0.number) (sym c.requires.instance)
    (there_is (arc_value c.args.inst) (instance_of c) c.args.grade c.in_ok-number.field-0.number (first_of c))

pub new-requires-clause-small : goal.new-requires-clause-small
new-requires-clause-small c =
    omega (arith, number_most (arc_value c.args.inst) (instance_of c) c.args.grade c.in_ok-number.field-0.number (first_of c), c.requires.grade)

pub new-requires-clause-list : goal.new-requires-clause-list
new-requires-clause-list c =
    c.requires.list ∙ sym (list_is (arc_value c.args.inst) (instance_of c) c.args.grade c.in_ok-number.field-0.number (first_of c)) ∙
    ap (λ (i : Problem). version_list i c.in_ok-number.field-0.number) (sym c.requires.instance)

version_is : (c : After-number-number) → arc_value c.in_ok-version.version ≡ record { instance = arc_value c.args.inst; number = c.in_ok-number.field-0.number }
version_is c = c.in_ok-version.ensures ∙ c.new.ensures ∙ ap (λ (i : Problem). edition_at i c.in_ok-number.field-0.number) c.requires.instance
  where
    edition_at : Problem → ℕ → Edition
    edition_at i n = record { instance = i; number = n }

brought : (c : After-number-number) →
    IsBrought (arc_value c.args.inst) c.args.grade c.in_ok-number.field-0.number c.in_ok-number.field-0.levels.items c.in_ok-number.field-0.log.entries c.in_ok-number.field-0.finished c.in_ok-number.field-0.queue
brought c =
    subst (λ (i : Problem). IsBrought i c.args.grade c.in_ok-number.field-0.number c.in_ok-number.field-0.levels.items c.in_ok-number.field-0.log.entries c.in_ok-number.field-0.finished c.in_ok-number.field-0.queue)
    c.deref-3.ensures c.in_ok-number.ensures.brought

pub invariant_of-result : goal.invariant_of-result
invariant_of-result c =
    let instance : IsInstance (arc_value c.args.inst) = subst IsInstance c.deref.ensures c.rows-rows.ensures.instance in
    let first : c.in_ok-number.field-0.number ≡ first_version_from (arc_value c.args.inst) c.args.grade =
    c.in_ok-number.ensures.first ∙ ap (λ (i : Problem). first_version_from i c.args.grade) c.deref-3.ensures in
    at_book (arc_value c.args.inst) instance c.args.grade c.in_ok-number.field-0.number first (arc_value c.in_ok-version.version) (version_is c) c.args.limit
    c.in_ok-number.field-0.levels.items c.in_ok-number.field-0.finished c.in_ok-buckets.buckets.jobs c.in_ok-number.field-0.queue c.in_ok-number.field-0.log (brought c)
    (subst IsEdition c.deref-4.ensures c.number-number.ensures.version) c.requires.grade c.requires.most c.args.moves.moves c.requires.list c.requires.within
    (subst (λ (i : Problem). AreJobsOf i c.args.moves.moves c.in_ok-buckets.buckets.jobs) c.deref-2.ensures c.in_ok-buckets.ensures) c.in_ok-number.ensures.room

pub returns : goal.returns
returns c =
    let instance : IsInstance (arc_value c.args.inst) = subst IsInstance c.deref.ensures c.rows-rows.ensures.instance in
    let first : c.in_ok-number.field-0.number ≡ first_version_from (arc_value c.args.inst) c.args.grade =
    c.in_ok-number.ensures.first ∙ ap (λ (i : Problem). first_version_from i c.args.grade) c.deref-3.ensures in
    let version : arc_value c.in_ok-version.version ≡ record { instance = arc_value c.args.inst; number = c.in_ok-number.field-0.number } =
    c.in_ok-version.ensures ∙ c.new.ensures ∙ ap (λ (i : Problem). edition_at i c.in_ok-number.field-0.number) c.requires.instance in
    let b : IsBrought (arc_value c.args.inst) c.args.grade c.in_ok-number.field-0.number c.in_ok-number.field-0.levels.items c.in_ok-number.field-0.log.entries c.in_ok-number.field-0.finished c.in_ok-number.field-0.queue =
    subst (λ (i : Problem). IsBrought i c.args.grade c.in_ok-number.field-0.number c.in_ok-number.field-0.levels.items c.in_ok-number.field-0.log.entries c.in_ok-number.field-0.finished c.in_ok-number.field-0.queue)
    c.deref-3.ensures c.in_ok-number.ensures.brought in
    at_seen (arc_value c.args.inst) instance c.args.grade c.in_ok-number.field-0.number first (arc_value c.in_ok-version.version) version c.args.limit
    c.in_ok-number.field-0.levels.items c.in_ok-number.field-0.finished c.in_ok-buckets.buckets.jobs c.in_ok-number.field-0.queue c.in_ok-number.field-0.log b
    c.args.passes c.in_ok-number.ensures.passes
  where
    edition_at : Problem → ℕ → Edition
    edition_at i n = record { instance = i; number = n }
