pub mod Known
pub mod GroupMoves
pub mod SortedPairs
pub mod NewMoves
