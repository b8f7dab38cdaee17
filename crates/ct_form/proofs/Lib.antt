pub mod Columns
pub mod Slacks
pub mod Solutions
pub mod Orders
pub mod Plain
pub mod FormAnswer
pub mod Kept
pub mod ZeroColumns
pub mod Made
pub mod PaddedCosts
pub mod EqualMade
pub mod FormMade
pub mod PlainKept
mod Worked
