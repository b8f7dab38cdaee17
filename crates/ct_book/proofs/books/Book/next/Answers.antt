use Rattle.std.proofs.Common.{◌≡◌, ◌+◌, true, true≢false, Some, sym, ap, subst, ◌∙◌, refl, arith}
use Rattle.std.specs.Arc.{arc_value}
use Rattle.ct_instance.specs.Versions.{Level, Covers, level_of}
use Rattle.ct_instance.specs.Reach.{opened_grade}
use Rattle.ct_version.specs.Desks.{IsHelp, IsFullMark}
use Rattle.ct_version.specs.Editions.{Edition, level_seen}
use Rattle.ct_book.specs.Books.{BookSeen, IsCovered, IsReadyBook, edition_of, place_of}
use Rattle.ct_book.specs.Insides.{Insides, book_in}
use Rattle.ct_handing.proofs.Short.{IsShortOf, short_of}
use Rattle.ct_book.proofs.Keeping.{inside_of, ready_iff, reached_help, marked_mark}
use Rattle.ct_book.proofs.books.Book.next.Goals as goal

pub marked-requires : goal.marked-requires
marked-requires c =
    let x : Insides = (inside_of (arc_value c.self.inside.version) c.self.inside.limit c.self.inside.full c.self.inside.levels.items c.self.inside.buckets.jobs c.self.inside.queue c.self.inside.log) in
    let level : level_seen c.finished.result ≡ level_of (x.version).instance (x.version).number =
    c.finished.ensures ∙ ap (λ (v : Edition). level_of v.instance v.number) c.deref.ensures in
    let beyond : Covers (level_of (x.version).instance (x.version).number) c.args.target → ⊥ =
    λ h. true≢false (sym (c.if-covers.ensures.1 (subst (λ (l : Level). Covers l c.args.target) (sym level) h))) in
    let short : IsShortOf x.version c.args.target = short_of x.version c.args.target beyond in
    let opened : opened_grade (x.version).instance (x.version).number ≡ Some (short.level + 1) = rw short.same refl in
    (short.level + 1, opened, omega (arith, c.requires, short.below))

pub returns-then-left-eq0-clause-answer : goal.returns-then-left-eq0-clause-answer
returns-then-left-eq0-clause-answer c =
    let x : Insides = (inside_of (arc_value c.self.inside.version) c.self.inside.limit c.self.inside.full c.self.inside.levels.items c.self.inside.buckets.jobs c.self.inside.queue c.self.inside.log) in
    let level : level_seen c.finished.result ≡ level_of (x.version).instance (x.version).number =
    c.finished.ensures ∙ ap (λ (v : Edition). level_of v.instance v.number) c.deref.ensures in
    let beyond : Covers (level_of (x.version).instance (x.version).number) c.args.target → ⊥ =
    λ h. true≢false (sym (c.if-covers.ensures.1 (subst (λ (l : Level). Covers l c.args.target) (sym level) h))) in
    let short : IsShortOf x.version c.args.target = short_of x.version c.args.target beyond in
    let ready : IsReadyBook (book_in x) = (ready_iff x short.level c.left.result short.same c.if-self.false c.left.ensures.left).0 c.if-left-eq0.true in (
      subst (λ (b : BookSeen). IsCovered b c.args.target → ⊥) c.self.view_is beyond,
      subst IsReadyBook c.self.view_is ready,
      refl,
    )

pub hand_out-place-requires-clause-grade : goal.hand_out-place-requires-clause-grade
hand_out-place-requires-clause-grade c =
    let x : Insides = (inside_of (arc_value c.self.inside.version) c.self.inside.limit c.self.inside.full c.self.inside.levels.items c.self.inside.buckets.jobs c.self.inside.queue c.self.inside.log) in
    let level : level_seen c.finished.result ≡ level_of (x.version).instance (x.version).number =
    c.finished.ensures ∙ ap (λ (v : Edition). level_of v.instance v.number) c.deref.ensures in
    let beyond : Covers (level_of (x.version).instance (x.version).number) c.args.target → ⊥ =
    λ h. true≢false (sym (c.if-covers.ensures.1 (subst (λ (l : Level). Covers l c.args.target) (sym level) h))) in
    (c.args.target, c.requires, subst (λ (b : BookSeen). IsCovered b c.args.target → ⊥) c.self.view_is beyond)

pub returns-then-covers-clause-answer : goal.returns-then-covers-clause-answer
returns-then-covers-clause-answer c =
    let x : Insides = (inside_of (arc_value c.self.inside.version) c.self.inside.limit c.self.inside.full c.self.inside.levels.items c.self.inside.buckets.jobs c.self.inside.queue c.self.inside.log) in
    let level : level_seen c.finished.result ≡ level_of (x.version).instance (x.version).number =
    c.finished.ensures ∙ ap (λ (v : Edition). level_of v.instance v.number) c.deref.ensures in
    let covers : Covers (level_of (x.version).instance (x.version).number) c.args.target =
    subst (λ (l : Level). Covers l c.args.target) level (c.if-covers.ensures.0 refl) in (
      record {
        covers = subst (λ (b : BookSeen). IsCovered b c.args.target) c.self.view_is covers;
        version = c.in_ok-helped.ensures.version ∙ ap edition_of c.self.view_is;
        help = subst (λ (b : BookSeen). IsHelp (place_of b) c.args.target c.in_ok-helped.field-0) c.self.view_is
            (reached_help x c.self.invariant c.args.target c.in_ok-helped.field-0 covers c.in_ok-helped.ensures.version c.in_ok-helped.ensures.level);
      },
      refl,
    )

pub returns-then-self-clause-answer : goal.returns-then-self-clause-answer
returns-then-self-clause-answer c =
    let x : Insides = (inside_of (arc_value c.self.inside.version) c.self.inside.limit c.self.inside.full c.self.inside.levels.items c.self.inside.buckets.jobs c.self.inside.queue c.self.inside.log) in
    let level : level_seen c.finished.result ≡ level_of (x.version).instance (x.version).number =
    c.finished.ensures ∙ ap (λ (v : Edition). level_of v.instance v.number) c.deref.ensures in
    let beyond : Covers (level_of (x.version).instance (x.version).number) c.args.target → ⊥ =
    λ h. true≢false (sym (c.if-covers.ensures.1 (subst (λ (l : Level). Covers l c.args.target) (sym level) h))) in
    let short : IsShortOf x.version c.args.target = short_of x.version c.args.target beyond in (
      record {
        beyond = subst (λ (b : BookSeen). IsCovered b c.args.target → ⊥) c.self.view_is beyond;
        full = subst (λ (b : BookSeen). (b.state).full ≡ true) c.self.view_is c.if-self.true;
        grade = subst (λ (b : BookSeen). opened_grade b.instance (b.state).number ≡ Some c.in_ok-marked.field-0.grade) c.self.view_is c.in_ok-marked.ensures.grade;
        version = c.in_ok-marked.ensures.version ∙ ap edition_of c.self.view_is;
        mark = subst (λ (b : BookSeen). IsFullMark (place_of b) c.args.target c.in_ok-marked.field-0) c.self.view_is
            (marked_mark x c.self.invariant c.args.target c.in_ok-marked.field-0 c.if-self.true short c.in_ok-marked.ensures.grade c.in_ok-marked.ensures.version);
      },
      refl,
    )
