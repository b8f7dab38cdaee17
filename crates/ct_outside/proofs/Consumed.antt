-- Pieces of a file, one after another, from a reader.
use Rattle.std.proofs.Common.{ℕ, ◌≤◌, List, length, Option}
use Rattle.std.specs.Io.KnownBytes.{Consumes}

-- what a loop of reads has done: it got no more than so many bytes, and the reader has lost them
pub record HasRead (old new : Option (List ℕ)) (got : List ℕ) (most : ℕ) : Type 0 where
  pub within : length got ≤ most
  pub consumed : Consumes old new got
