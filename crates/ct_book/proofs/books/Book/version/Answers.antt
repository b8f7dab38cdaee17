use Rattle.std.proofs.Common.{subst}
use Rattle.std.specs.Arc.{arc_value}
use Rattle.ct_version.specs.Desks.{IsOfPlace}
use Rattle.ct_book.specs.Books.{BookSeen, place_of}
use Rattle.ct_book.proofs.Keeping.{inside_of, of_place}
use Rattle.ct_book.proofs.books.Book.version.Goals as goal

pub returns-clause-place : goal.returns-clause-place
returns-clause-place c = subst (λ (b : BookSeen). IsOfPlace (place_of b) (arc_value c.self.inside.version)) c.self.view_is (of_place (inside_of (arc_value c.self.inside.version) c.self.inside.limit c.self.inside.full c.self.inside.levels.items c.self.inside.buckets.jobs c.self.inside.queue c.self.inside.log) c.self.invariant)
