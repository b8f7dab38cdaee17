use Rattle.std.proofs.Common.{◌<◌, ◌^◌, All, subst}
use Rattle.std.proofs.lemmas.List.Elements.{All-from_recursion}
use Rattle.ct_instance.specs.Made.{indices}
use Rattle.ct_book.specs.Books.{BookSeen, counts_of}
use Rattle.ct_book.proofs.Logs.{counts_small}
use Rattle.ct_book.proofs.books.Book.entries.Goals as goal

pub returns-clause-counts : goal.returns-clause-counts
returns-clause-counts c =
    subst (λ (b : BookSeen). All (λ n. n < 2 ^ 64) (counts_of b)) c.self.view_is
    (All-from_recursion (λ n. n < 2 ^ 64) _ (counts_small c.self.inside.log.entries (indices c.self.inside.log.passes) c.count.ensures.small))
