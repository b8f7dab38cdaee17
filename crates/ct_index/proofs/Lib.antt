pub mod BitFacts
pub mod Lookups
pub mod Additions
pub mod Pages
pub mod Counting
