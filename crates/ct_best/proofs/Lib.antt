pub mod Orders
pub mod Points
pub mod Lists
pub mod Closed
pub mod Backwards
pub mod Frontier
pub mod Cut
