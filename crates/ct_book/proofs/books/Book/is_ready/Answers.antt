use Rattle.std.proofs.Common.{◌≡◌, nat_eq, true, subst, ap, sym, ◌∙◌, eq-eqb, eqb-true}
use Rattle.ct_instance.specs.Versions.{level_of}
use Rattle.std.specs.Arc.{arc_value}
use Rattle.ct_version.specs.Editions.{Edition}
use Rattle.ct_book.specs.Books.{BookSeen, IsReadyBook}
use Rattle.ct_book.proofs.Keeping.{inside_of, ready_iff}
use Rattle.ct_book.proofs.books.Book.is_ready.Goals as goal

pub returns-else-self : goal.returns-else-self
returns-else-self c =
    let level = ap (λ (v : Edition). level_of v.instance v.number) (sym c.deref.ensures) ∙ sym c.in-Upto.ensures in
    let iff = ready_iff (inside_of (arc_value c.self.inside.version) c.self.inside.limit c.self.inside.full c.self.inside.levels.items c.self.inside.buckets.jobs c.self.inside.queue c.self.inside.log) c.in-Upto.field-0 c.left.result level c.if-self.false c.left.ensures.left in
    subst (λ (b : BookSeen). (nat_eq c.left.result 0 ≡ true → IsReadyBook b) × (IsReadyBook b → nat_eq c.left.result 0 ≡ true)) c.self.view_is
    ((λ t. iff.0 (eqb-true c.left.result 0 t), λ r. eq-eqb c.left.result 0 (iff.1 r)))
