pub mod Chains
pub mod Turns
pub mod Counts
pub mod Scripts
pub mod Arrays
pub mod Accepted
