pub mod Accepted
pub mod Refusals
pub mod Certified
pub mod JobList
pub mod Checking
pub mod Dockets
pub mod Coins
pub mod Laws
