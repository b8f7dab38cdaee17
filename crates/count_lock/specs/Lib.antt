pub mod Pairs
pub mod Sight
pub mod Count
pub mod Told
