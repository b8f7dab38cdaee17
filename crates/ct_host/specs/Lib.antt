pub mod Values
pub mod Hosts
pub mod Steps
pub mod Closing
