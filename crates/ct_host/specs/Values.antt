-- What a host guards: a version within the limit on the number of moves, and a book.
use Rattle.std.specs.Prelude.{ℕ}
use Rattle.ct_version.specs.Editions.{Edition}
use Rattle.ct_version.specs.Desks.{Place}
use Rattle.ct_book.specs.Books.{BookSeen}
use Rattle.ct_book.specs.Benches.{BenchPlace}

-- a version of a place, by its number
pub record PlacedVersion : Type 0 where
  pub place : Place
  pub number : ℕ

abbrev pub placed : Edition → ℕ → PlacedVersion
placed v limit = record { place = record { instance = v.instance; limit = limit }; number = v.number }

-- the instance, the limit and the number of passes of a book
abbrev pub bench_place : BookSeen → BenchPlace
bench_place b = record { instance = b.instance; limit = b.limit; passes = b.passes }
