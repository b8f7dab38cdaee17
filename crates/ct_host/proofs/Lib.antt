pub mod Counts
pub mod Lists
pub mod Called
pub mod BatchCalls
pub mod Pinned
pub mod Dealing
pub mod Joining
