pub mod Machine
pub mod Journal
pub mod OnePass
pub mod Remainders
pub mod Kept
pub mod Laws
